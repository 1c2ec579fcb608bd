use Rattle.std.proofs.Common.{sym, ◌∙◌, arith}
use Rattle.kc_rules.proofs.GcdLemmas.{gcd-step, gcd-zero, gcd-some}
use Rattle.kc_rules.proofs.numbers.gcd.Goals as goal

pub steps-preserved : goal.steps-preserved
steps-preserved c = sym (gcd-step c.steps.a c.steps.b (omega arith)) ∙ c.steps.invariant

pub returns-clause-value : goal.returns-clause-value
returns-clause-value c = sym (gcd-zero c.steps.a c.steps.b (omega arith)) ∙ c.steps.invariant

pub returns-clause-some : goal.returns-clause-some
returns-clause-some c =
    omega (arith, gcd-zero c.steps.a c.steps.b (omega arith), c.steps.invariant, gcd-some c.args.a c.args.b (omega arith))

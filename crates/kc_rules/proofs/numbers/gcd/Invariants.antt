use Rattle.std.proofs.Common.{◌≡◌}
use Rattle.kc_rules.specs.Amounts.{gcd}
use Rattle.kc_rules.proofs.numbers.gcd.Given as goal

abbrev pub invariant-steps : goal.invariant-steps
invariant-steps l = gcd l.a l.b ≡ gcd l.fn.a l.fn.b

abbrev pub decreases-steps : goal.decreases-steps
decreases-steps l = l.b

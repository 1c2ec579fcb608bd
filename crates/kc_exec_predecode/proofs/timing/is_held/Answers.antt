use Rattle.std.proofs.Common.{Ok, ap, sym, ◌∙◌}
use Rattle.kc_exec_spec.specs.Plans.{plan_of}
use Rattle.kc_exec_predecode.specs.Predecoding.{holds_at}
use Rattle.kc_exec_predecode.proofs.Known.{when_known}
use Rattle.kc_exec_predecode.proofs.timing.is_held.Goals as goal

pub returns-in-When-clause-value : goal.returns-in-When-clause-value
returns-in-When-clause-value g c =
    ap Ok (c.is_met.ensures ∙ when_known c.args.predecoded.now c.args.psw c.requires.predecoded c.in-When.is)
    ∙ ap (λ k. holds_at k (plan_of c.args.predecoded.now.mnemonic) c.args.predecoded.now.insn.operand c.args.psw c.args.wsr (g.B.Bus.byte (g.B.Bus.held c.args.bus.now))) (sym c.in-When.is)

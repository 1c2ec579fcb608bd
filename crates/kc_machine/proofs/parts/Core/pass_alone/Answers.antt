use Rattle.std.proofs.Common.{ap, sym, ◌∙◌}
use Rattle.kc_machine_spec.specs.Machine.{current}
use Rattle.kc_machine.specs.Seen.{machine_of}
use Rattle.kc_machine.proofs.Prepared.{known_next}
use Rattle.kc_machine.proofs.parts.Core.pass_alone.Goals as goal

pub go_through-requires-clause-value : goal.go_through-requires-clause-value
go_through-requires-clause-value g c =
    c.placed_predecoded-activity.ensures.knows.value
    ∙ known_next (machine_of c.args.self.now) c.predecoded_at-predecoded.result c.requires.between (c.predecoded_at-predecoded.ensures (sym c.is_blank.ensures ∙ c.if-is_blank.false))
    ∙ ap (λ s. current (machine_of s)) (sym c.placed_predecoded-activity.ensures.knows.same)

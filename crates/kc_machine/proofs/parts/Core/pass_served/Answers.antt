use Rattle.std.proofs.Common.{ap, sym, ◌∙◌}
use Rattle.kc_machine_spec.specs.Machine.{current, serves}
use Rattle.kc_machine.specs.Seen.{machine_of}
use Rattle.kc_machine.proofs.Prepared.{free_serves}
use Rattle.kc_machine.proofs.parts.Core.pass_served.Goals as goal

pub go_through-requires-clause-value : goal.go_through-requires-clause-value
go_through-requires-clause-value g c =
    c.serves-activity.ensures.knows.value
    ∙ ap (serves (machine_of c.args.self.now)) c.requires.choice
    ∙ free_serves (machine_of c.args.self.now) c.requires.free
    ∙ ap (λ s. current (machine_of s)) (sym c.serves-activity.ensures.knows.same)

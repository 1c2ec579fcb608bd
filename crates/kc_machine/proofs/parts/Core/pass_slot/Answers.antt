use Rattle.std.proofs.Common.{ap, sym, ◌∙◌}
use Rattle.kc_machine_spec.specs.Machine.{current}
use Rattle.kc_machine.specs.Bus.{held_of}
use Rattle.kc_machine.specs.Seen.{machine_of}
use Rattle.kc_machine.proofs.Prepared.{comes_next, same-machine}
use Rattle.kc_machine.proofs.parts.Core.pass_slot.Goals as goal

pub pass_predecoded-requires-clause-value : goal.pass_predecoded-requires-clause-value
pass_predecoded-requires-clause-value g c =
    comes_next (machine_of c.args.self.now) c.predecoded_at-predecoded.result c.in-Ok.states c.requires.between (c.predecoded_at-predecoded.ensures (rw c.if-not-is_followed_freely.false at c.is_followed_freely.ensures.known)) (sym c.in-Ok.ensures.value)
    ∙ ap current (sym (same-machine c.args.self.now c.time_over.new.common (ap held_of c.time_over.ensures.common)))

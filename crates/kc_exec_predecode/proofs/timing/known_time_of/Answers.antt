use Rattle.std.proofs.Common.{sym, ◌∙◌}
use Rattle.kc_exec_predecode.proofs.Known.{time_known}
use Rattle.kc_exec_predecode.proofs.timing.known_time_of.Goals as goal

pub returns-else-is_fixed-clause-value : goal.returns-else-is_fixed-clause-value
returns-else-is_fixed-clause-value g c =
    let held = g.B.Bus.held c.args.bus.now in
    (rw c.masks.ensures.value at c.simple_time.ensures.value)
    ∙ sym (time_known c.args.predecoded.now c.args.cpu (g.B.Bus.meaning.masks held) (g.B.Bus.byte held) c.requires.predecoded c.requires.known)

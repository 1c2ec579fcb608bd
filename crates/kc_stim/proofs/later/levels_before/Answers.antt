use Rattle.std.proofs.Common.{sym, ◌∙◌}
use Rattle.kc_stim.specs.Parts.{drives_in}
use Rattle.kc_stim.proofs.LaterLaws.{known_none, known_next}
use Rattle.kc_stim.proofs.later.levels_before.Goals as goal

pub loop-pin-init : goal.loop-pin-init
loop-pin-init c = c.new-levels.ensures.items ∙ sym (known_none (drives_in c.args.index.now).stimuli c.args.at)

pub loop-pin-preserved : goal.loop-pin-preserved
loop-pin-preserved c =
    rw (c.in_ok-push.ensures.items, c.loop-pin.invariant, c.level_before.ensures) (known_next (drives_in c.args.index.now).stimuli c.args.at c.loop-pin.pin)

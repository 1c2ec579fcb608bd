use Rattle.std.proofs.Common.{◌≡◌, ◌<◌, ◌≤◌}
use Rattle.kc_base.specs.declared.types.Level.TheVariants.{Low}
use Rattle.kc_trace.specs.declared.life.Signal.{Signal}
use Rattle.kc_trace.specs.Signals.{pin_of}
use Rattle.kc_trace.specs.Tables.{level_in}
use Rattle.kc_events.specs.Lives.{start_levels}
use Rattle.kc_events.proofs.inputs.start_levels.Given as goal

abbrev pub invariant-loop-pin : goal.invariant-loop-pin
invariant-loop-pin l =
    ((signal : Signal) → pin_of signal < l.pin → level_in l.levels signal ≡ start_levels l.stimuli l.base signal)
    × ((signal : Signal) → l.pin ≤ pin_of signal → level_in l.levels signal ≡ Low)

use Rattle.std.proofs.Common.{◌≡◌, ◌<◌}
use Rattle.kc_trace.specs.declared.life.Signal.{Signal}
use Rattle.kc_trace.specs.Signals.{pin_of, start_level}
use Rattle.kc_trace.specs.Tables.{level_in}
use Rattle.kc_trace.proofs.levels.Levels.start.Given as goal

abbrev pub invariant-loop-pin : goal.invariant-loop-pin
invariant-loop-pin l = (signal : Signal) → pin_of signal < l.pin → level_in l.levels signal ≡ start_level signal

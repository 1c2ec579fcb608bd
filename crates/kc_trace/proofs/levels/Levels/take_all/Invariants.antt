use Rattle.std.proofs.Common.{◌≡◌, take}
use Rattle.kc_trace.specs.declared.life.Signal.{Signal}
use Rattle.kc_trace.specs.Lives.{level_after}
use Rattle.kc_trace.specs.Tables.{level_in}
use Rattle.kc_trace.proofs.levels.Levels.take_all.Given as goal

abbrev pub invariant-loop-what : goal.invariant-loop-what
invariant-loop-what l = (signal : Signal) → level_in l.self signal ≡ level_after signal (level_in l.initial.self signal) (take l.what-index l.whats)

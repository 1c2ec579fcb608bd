use Rattle.std.proofs.Common.{◌≡◌, ℕ, ◌+◌, ◌-◌, false}
use Rattle.kc_trace.specs.Trace.{out_of}
use Rattle.kc_profile.specs.Passing.{CountsOn}
use Rattle.kc_profile.specs.Statistics.{AreAllFew}
use Rattle.kc_profile.proofs.Going.{Along}
use Rattle.kc_profile.proofs.running.run_profiled.Given as goal

abbrev pub invariant-loop-machine : goal.invariant-loop-machine
invariant-loop-machine g l = record {
  along : Along g.X.Extra.further l.until l.initial.machine.machine (out_of g.S.Sink.written g.S.Sink.faults l.initial.out) l.initial.profile l.initial.steps l.initial.machine.moves l.machine.machine (out_of g.S.Sink.written g.S.Sink.faults l.out) l.profile l.steps l.machine.moves;
  unbroken : l.out.failed ≡ false;
  statistics : CountsOn g.X.Extra.further l.initial.statistics.life l.initial.machine.machine l.initial.statistics l.machine.machine l.statistics;
  life : l.statistics.life ≡ l.initial.statistics.life;
  few : (n : ℕ) → AreAllFew n l.initial.statistics → AreAllFew (n + (l.machine.machine.time - l.initial.machine.machine.time)) l.statistics;
}

abbrev pub decreases-loop-machine : goal.decreases-loop-machine
decreases-loop-machine g l = l.until - l.machine.machine.time

use Rattle.std.proofs.Common.{◌≡◌, ℕ, ◌+◌, ◌*◌, ◌≤◌, false}
use Rattle.kc_trace.specs.Trace.{out_of}
use Rattle.kc_debug.specs.Stops.{states_of_activities}
use Rattle.kc_debug.proofs.Passing.{Along}
use Rattle.kc_debug.specs.Passing.{Spends}
use Rattle.kc_debug.proofs.carrying.step.Given as goal

-- some states have passed, and the rest are those of the activities that are left
abbrev pub invariant-loop-left : goal.invariant-loop-left
invariant-loop-left g l = record {
  states : ℕ;
  along : Along g.X.Extra.further l.initial.machine.machine (out_of g.S.Sink.written g.S.Sink.faults l.initial.out) l.initial.begun states l.machine.machine (out_of g.S.Sink.written g.S.Sink.faults l.out) l.begun;
  spent : Spends g.X.Extra.further states l.initial.machine l.initial.steps l.machine l.steps;
  rest : states_of_activities g.X.Extra.further l.count l.initial.machine.machine ≡ states + states_of_activities g.X.Extra.further l.left l.machine.machine;
  time : l.machine.machine.time + 255 * l.left ≤ l.initial.machine.machine.time + 255 * l.count;
  few : l.left ≤ l.count;
  unbroken : l.out.failed ≡ false;
}

abbrev pub decreases-loop-left : goal.decreases-loop-left
decreases-loop-left g l = l.left

use Rattle.std.proofs.Common.{◌≡◌, ℕ, ◌-◌, false}
use Rattle.kc_trace.specs.Trace.{out_of}
use Rattle.kc_debug.specs.Passing.{SpendsLooking}
use Rattle.kc_debug.proofs.Onward.{Onward}
use Rattle.kc_debug.proofs.carrying.go.Given as goal

-- some states have passed without a stop, and the rest are those of a run from here
abbrev pub invariant-loop-machine : goal.invariant-loop-machine
invariant-loop-machine g l = record {
  states : ℕ;
  on : Onward g.X.Extra.further (g.T.Stops.stopping l.fn.stops) l.until l.fn.machine.machine (out_of g.S.Sink.written g.S.Sink.faults l.fn.out) l.fn.begun states l.machine.machine (out_of g.S.Sink.written g.S.Sink.faults l.out) l.begun;
  spent : SpendsLooking g.X.Extra.further (g.T.Stops.looks l.fn.stops) states l.fn.machine l.fn.steps l.machine l.steps;
  follows : g.T.Stops.Follows l.stops l.fn.machine.machine (out_of g.S.Sink.written g.S.Sink.faults l.fn.out) states;
  stops : g.T.Stops.stopping l.stops ≡ g.T.Stops.stopping l.fn.stops;
  settings : g.T.Stops.settings l.stops ≡ g.T.Stops.settings l.fn.stops;
  looks : g.T.Stops.looks l.stops ≡ g.T.Stops.looks l.fn.stops;
  unbroken : l.out.failed ≡ false;
}

abbrev pub decreases-loop-machine : goal.decreases-loop-machine
decreases-loop-machine g l = l.until - l.machine.machine.time

use Rattle.kc_extra.specs.contracts.pair_unit.PairExtra.TheImpl as pair
use Rattle.kc_trace.specs.Trace.{out_of}
use Rattle.kc_cycles.specs.contracts.watchdog.Watchdog as watchdog_type
use Rattle.kc_cycles.specs.contracts.watchdog.WatchdogExtra.TheImpl as watchdog
use Rattle.kc_cycles.specs.Making.{deadline_of}
use Rattle.std.proofs.Common.{◌≡◌, ℕ, ◌-◌}
use Rattle.kc_debug.proofs.Lived.{Running}
use Rattle.kc_debug.proofs.living.go_in_life.Given as goal

-- some states of the life have passed without a stop, and the rest are those of a run from here
abbrev pub invariant-loop-machine : goal.invariant-loop-machine
invariant-loop-machine g l = record {
  states : ℕ;
  running : Running (pair.ghosts g.row.X watchdog_type.the_row g.X.Extra pair.no_dict watchdog.ghosts pair.no_dict).further deadline_of (g.T.Stops.stopping l.fn.stops) l.until l.fn.machine.machine (out_of g.S.Sink.written g.S.Sink.faults l.fn.out) l.fn.begun states
      l.machine.machine (out_of g.S.Sink.written g.S.Sink.faults l.out) l.begun;
  follows : g.T.Stops.Follows l.stops l.fn.machine.machine (out_of g.S.Sink.written g.S.Sink.faults l.fn.out) states;
  stops : g.T.Stops.stopping l.stops ≡ g.T.Stops.stopping l.fn.stops;
  settings : g.T.Stops.settings l.stops ≡ g.T.Stops.settings l.fn.stops;
}

abbrev pub decreases-loop-machine : goal.decreases-loop-machine
decreases-loop-machine g l = l.until - l.machine.machine.time

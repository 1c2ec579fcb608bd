use Rattle.kc_extra.specs.contracts.pair_unit.PairExtra.TheImpl as pair
use Rattle.kc_trace.specs.Trace.{out_of}
use Rattle.kc_cycles.specs.contracts.watchdog.Watchdog as watchdog_type
use Rattle.kc_cycles.specs.contracts.watchdog.WatchdogExtra.TheImpl as watchdog
use Rattle.kc_cycles.specs.Making.{deadline_of}
use Rattle.kc_debug.specs.Stops.{states_of_activities}
use Rattle.kc_debug.proofs.Lived.{Stepping}
use Rattle.kc_debug.proofs.living.step_in_life.Given as goal

-- some states of the life have passed, and the rest are those of the activities that are left
abbrev pub invariant-loop-left : goal.invariant-loop-left
invariant-loop-left g l =
    Stepping (pair.ghosts g.row.X watchdog_type.the_row g.X.Extra pair.no_dict watchdog.ghosts pair.no_dict).further deadline_of l.count l.initial.machine.machine (out_of g.S.Sink.written g.S.Sink.faults l.initial.out) l.initial.begun
    l.left l.machine.machine (out_of g.S.Sink.written g.S.Sink.faults l.out) l.begun

abbrev pub decreases-loop-left : goal.decreases-loop-left
decreases-loop-left g l = states_of_activities (pair.ghosts g.row.X watchdog_type.the_row g.X.Extra pair.no_dict watchdog.ghosts pair.no_dict).further l.left l.machine.machine

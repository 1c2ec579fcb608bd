use Rattle.std.proofs.Common.{◌≡◌, ◌≤◌, ◌-◌, ℕ, None, false}
use Rattle.kc_extra.specs.contracts.pair_unit.PairExtra.TheImpl as pair
use Rattle.kc_trace.specs.Trace.{out_of}
use Rattle.kc_cycles.specs.contracts.watchdog.Watchdog as watchdog_type
use Rattle.kc_cycles.specs.contracts.watchdog.WatchdogExtra.TheImpl as watchdog
use Rattle.kc_cycles.specs.Making.{deadline_of}
use Rattle.kc_cycles.proofs.Going.{Along, IsAhead, IsLeft}
use Rattle.kc_cycles.proofs.life.live.Given as goal

-- some states of the life have passed without an end
abbrev pub invariant-spans : goal.invariant-spans
invariant-spans g l =
    let f = (pair.ghosts g.row.X watchdog_type.the_row g.X.Extra pair.no_dict watchdog.ghosts pair.no_dict).further in
    record {
      states : ℕ;
      along : Along f l.initial.machine.machine (out_of g.S.Sink.written g.S.Sink.faults l.initial.out) l.initial.steps states l.machine.machine (out_of g.S.Sink.written g.S.Sink.faults l.out) l.steps;
      lives : l.machine.machine.ended ≡ None;
      within : l.machine.machine.time ≤ l.until;
      ahead : IsAhead (deadline_of l.machine.machine.board.units.further) l.machine.machine.time;
      left : IsLeft f deadline_of l.until l.initial.machine.machine states l.machine.machine.time;
      unbroken : l.out.failed ≡ false;
    }

abbrev pub decreases-spans : goal.decreases-spans
decreases-spans g l = l.until - l.machine.machine.time

use Rattle.std.proofs.Common.{◌≡◌, ◌+◌, ◌-◌, ◌*◌, ◌≤◌}
use Rattle.kc_span.specs.Span.{after}
use Rattle.kc_block_spec.specs.Touch.{block_rule, touch, edges_of}
use Rattle.kc_block_spec.specs.Leading.{Leads}
use Rattle.kc_block_units.specs.Scheduler.{shown_units, IsScheduled}
use Rattle.kc_block_units.specs.Standing.{standing, moves_of}
use Rattle.kc_block_tick.proofs.advancing.advance.Given as goal

abbrev pub invariant-loop-time : goal.invariant-loop-time
invariant-loop-time g l = record {
  later : l.now ≤ l.time;
  within : l.time ≤ l.to;
  scheduled : IsScheduled g.X.Extra.further g.X.Extra.agrees (standing g.X.Extra.plain l.scheduler) l.time;
  units : shown_units g.X.Extra.further (standing g.X.Extra.plain l.scheduler) l.time
      ≡ after (block_rule g.X.Extra.further) l.now (l.time - l.now) (shown_units g.X.Extra.further (standing g.X.Extra.plain l.fn.scheduler) l.now);
  edges : Leads g.O.EdgeOut.led l.fn.out (edges_of g.X.Extra.further l.now (l.time - l.now) (shown_units g.X.Extra.further (standing g.X.Extra.plain l.fn.scheduler) l.now)) l.out;
  steps : l.steps ≤ l.fn.steps + 4 * touch g.X.Extra.further l.now (l.time - l.now) (shown_units g.X.Extra.further (standing g.X.Extra.plain l.fn.scheduler) l.now);
  moves : moves_of g.X.Extra.moved l.scheduler
      ≤ moves_of g.X.Extra.moved l.fn.scheduler + 4 * touch g.X.Extra.further l.now (l.time - l.now) (shown_units g.X.Extra.further (standing g.X.Extra.plain l.fn.scheduler) l.now);
}

abbrev pub decreases-loop-time : goal.decreases-loop-time
decreases-loop-time g l = l.to - l.time

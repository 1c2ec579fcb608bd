use Rattle.std.proofs.Common.{◌-◌, ◌≤◌}
use Rattle.kc_block_spec.specs.Levels.{edges_below}
use Rattle.kc_block_spec.specs.Touch.{in_state}
use Rattle.kc_block_spec.specs.Leading.{Leads}
use Rattle.kc_block_units.proofs.edges.lead_edges.Given as goal

abbrev pub invariant-loop-pin : goal.invariant-loop-pin
invariant-loop-pin g l = record {
  led : Leads g.O.EdgeOut.led l.fn.out (in_state l.at (edges_below l.old l.new l.pin)) l.out;
  within : l.pin ≤ 18;
}

abbrev pub decreases-loop-pin : goal.decreases-loop-pin
decreases-loop-pin g l = 18 - l.pin

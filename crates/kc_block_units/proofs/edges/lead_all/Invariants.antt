use Rattle.std.proofs.Common.{take}
use Rattle.kc_block_spec.specs.Touch.{in_state}
use Rattle.kc_block_spec.specs.Leading.{Leads}
use Rattle.kc_block_units.proofs.edges.lead_all.Given as goal

abbrev pub invariant-loop-edge : goal.invariant-loop-edge
invariant-loop-edge g l = Leads g.O.EdgeOut.led l.fn.out (in_state l.at (take l.edge-index l.edges)) l.out

use Rattle.std.proofs.Common.{◌≡◌, length}
use Rattle.kc_obj_module.specs.Pieces.{segments_in_order}
use Rattle.kc_obj_module.proofs.pieces.are_in_order.Given as goal

abbrev pub invariant-loop-left : goal.invariant-loop-left
invariant-loop-left l = segments_in_order l.left ≡ segments_in_order l.fn.segments

abbrev pub decreases-loop-left : goal.decreases-loop-left
decreases-loop-left l = length l.left

use Rattle.std.proofs.Common.{◌≡◌, true, length}
use Rattle.std.specs.List.{list_all}
use Rattle.kc_obj_module.specs.Pieces.{is_placed, segments_in_order}
use Rattle.kc_link_place.specs.Placing.{stack_in}
use Rattle.kc_link_place.proofs.stack.stack_in.Given as goal

abbrev pub invariant-loop-left : goal.invariant-loop-left
invariant-loop-left l = record {
  goes_on : stack_in l.left ≡ stack_in l.fn.segments;
  placed : list_all is_placed l.left ≡ true;
  ordered : segments_in_order l.left ≡ true;
}

abbrev pub decreases-loop-left : goal.decreases-loop-left
decreases-loop-left l = length l.left

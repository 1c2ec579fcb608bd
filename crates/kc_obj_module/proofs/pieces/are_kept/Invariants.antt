use Rattle.std.proofs.Common.{◌≡◌, ◌+◌, length}
use Rattle.kc_obj_module.specs.Pieces.{all_kept}
use Rattle.kc_obj_module.proofs.pieces.are_kept.Given as goal

abbrev pub invariant-loop-left : goal.invariant-loop-left
invariant-loop-left l = record {
  kept : all_kept l.publics l.fixups l.index l.left ≡ all_kept l.publics l.fixups 0 l.fn.segments;
  counted : l.index + length l.left ≡ length l.fn.segments;
}

abbrev pub decreases-loop-left : goal.decreases-loop-left
decreases-loop-left l = length l.left

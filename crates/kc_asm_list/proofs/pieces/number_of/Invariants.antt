use Rattle.std.proofs.Common.{◌≡◌, ◌+◌, length}
use Rattle.kc_asm_list.specs.RelocatableBytes as spec
use Rattle.kc_asm_list.proofs.pieces.number_of.Given as goal

abbrev pub invariant-loop-left : goal.invariant-loop-left
invariant-loop-left l = record {
  goes_on : l.number + spec.number_of l.kind l.left ≡ spec.number_of l.kind l.segments;
  count : l.number + length l.left ≡ length l.segments;
}

abbrev pub decreases-loop-left : goal.decreases-loop-left
decreases-loop-left l = length l.left

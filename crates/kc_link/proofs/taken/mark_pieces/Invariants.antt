use Rattle.std.proofs.Common.{◌≡◌, ℕ, ◌+◌, ◌<◌, false, ◌||◌, get_or, length}
use Rattle.kc_link.specs.Free as spec
use Rattle.kc_link.proofs.taken.mark_pieces.Given as goal

abbrev pub invariant-loop-left : goal.invariant-loop-left
invariant-loop-left l = record {
  size : length l.taken ≡ 65536;
  count : l.number + length l.left ≡ length l.fn.segments;
  marks : (a : ℕ) → a < 65536 → (get_or l.taken a false || spec.pieces_cover l.placed l.index l.number l.left a) ≡ (get_or l.initial.taken a false || spec.pieces_cover l.placed l.index 0 l.fn.segments a);
}

abbrev pub decreases-loop-left : goal.decreases-loop-left
decreases-loop-left l = length l.left

use Rattle.std.proofs.Common.{◌≡◌, ℕ, ◌+◌, ◌<◌, false, ◌||◌, get_or, length}
use Rattle.kc_link.specs.Free as spec
use Rattle.kc_link.proofs.taken.mark_modules.Given as goal

abbrev pub invariant-loop-left : goal.invariant-loop-left
invariant-loop-left l = record {
  size : length l.taken ≡ 65536;
  count : l.index + length l.left ≡ length l.fn.modules;
  marks : (a : ℕ) → a < 65536 → (get_or l.taken a false || spec.modules_cover l.placed l.index l.left a) ≡ (get_or l.initial.taken a false || spec.modules_cover l.placed 0 l.fn.modules a);
}

abbrev pub decreases-loop-left : goal.decreases-loop-left
decreases-loop-left l = length l.left

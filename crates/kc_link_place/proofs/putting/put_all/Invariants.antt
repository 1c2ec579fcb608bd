use Rattle.std.proofs.Common.{◌≡◌, ◌++◌, List, [], length}
use Rattle.kc_link_place.specs.declared.pieces.Stand.{Stand}
use Rattle.kc_link_place.specs.Gaps.{Represents}
use Rattle.kc_link_place.specs.Placing.{put_all}
use Rattle.kc_link_place.proofs.putting.put_all.Given as goal

abbrev pub invariant-loop-left : goal.invariant-loop-left
invariant-loop-left l = (fixed : List Stand) → Represents l.initial.gaps.items fixed →
    (put_all l.ranges fixed l.puts.items l.left ≡ put_all l.fn.ranges fixed [] l.fn.pieces) × Represents l.gaps.items (fixed ++ l.puts.items)

abbrev pub decreases-loop-left : goal.decreases-loop-left
decreases-loop-left l = length l.left

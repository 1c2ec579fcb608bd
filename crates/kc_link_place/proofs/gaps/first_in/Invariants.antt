use Rattle.std.proofs.Common.{◌≡◌, length}
use Rattle.kc_link_place.specs.Gaps.{first_fit}
use Rattle.kc_link_place.proofs.gaps.first_in.Given as goal

abbrev pub invariant-loop-left : goal.invariant-loop-left
invariant-loop-left l = first_fit l.range.0 l.range.1 l.kind l.count l.left ≡ first_fit l.fn.range.0 l.fn.range.1 l.fn.kind l.fn.count l.fn.gaps

abbrev pub decreases-loop-left : goal.decreases-loop-left
decreases-loop-left l = length l.left

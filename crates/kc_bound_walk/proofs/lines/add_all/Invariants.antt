use Rattle.std.proofs.Common.{◌≡◌, length}
use Rattle.kc_bound_walk.specs.Walks.{with_all}
use Rattle.kc_bound_walk.proofs.lines.add_all.Given as goal

abbrev pub invariant-loop-left : goal.invariant-loop-left
invariant-loop-left l = with_all l.lines.items l.left ≡ with_all l.fn.lines.items l.fn.more

abbrev pub decreases-loop-left : goal.decreases-loop-left
decreases-loop-left l = length l.left

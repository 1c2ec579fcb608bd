use Rattle.std.proofs.Common.{◌≡◌, ◌++◌, length}
use Rattle.kc_bound_walk.specs.Parts.{none_taken}
use Rattle.kc_bound_walk.proofs.turns.none_taken.Given as goal

abbrev pub invariant-loop-left : goal.invariant-loop-left
invariant-loop-left l = l.all.items ++ none_taken l.left ≡ none_taken l.fn.loops

abbrev pub decreases-loop-left : goal.decreases-loop-left
decreases-loop-left l = length l.left

use Rattle.std.proofs.Common.{◌≡◌, ◌++◌, length, map}
use Rattle.kc_bound_walk.specs.Parts.{repeated}
use Rattle.kc_bound_walk.proofs.turns.with_times.Given as goal

abbrev pub invariant-loop-left : goal.invariant-loop-left
invariant-loop-left l = l.all.items ++ map (repeated l.times) l.left ≡ map (repeated l.times) l.fn.turns

abbrev pub decreases-loop-left : goal.decreases-loop-left
decreases-loop-left l = length l.left

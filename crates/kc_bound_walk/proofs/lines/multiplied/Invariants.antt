use Rattle.std.proofs.Common.{◌≡◌, ◌++◌, length, map}
use Rattle.kc_bound_walk.specs.Parts.{times_more}
use Rattle.kc_bound_walk.proofs.lines.multiplied.Given as goal

abbrev pub invariant-loop-left : goal.invariant-loop-left
invariant-loop-left l = l.all.items ++ map (times_more l.times) l.left ≡ map (times_more l.times) l.fn.lines

abbrev pub decreases-loop-left : goal.decreases-loop-left
decreases-loop-left l = length l.left

use Rattle.std.proofs.Common.{◌≡◌, length}
use Rattle.kc_bound_walk.specs.Parts.{are_enough}
use Rattle.kc_bound_walk.proofs.turns.are_enough.Given as goal

abbrev pub invariant-loop-loops_left : goal.invariant-loop-loops_left
invariant-loop-loops_left l = are_enough l.loops_left l.turns_left ≡ are_enough l.fn.loops l.fn.turns

abbrev pub decreases-loop-loops_left : goal.decreases-loop-loops_left
decreases-loop-loops_left l = length l.loops_left

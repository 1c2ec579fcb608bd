use Rattle.std.proofs.Common.{◌≡◌, ◌++◌, length}
use Rattle.kc_bound_walk.specs.Parts.{with_step}
use Rattle.kc_bound_walk.proofs.turns.with_step.Given as goal

abbrev pub invariant-loop-loops_left : goal.invariant-loop-loops_left
invariant-loop-loops_left l = l.all.items ++ with_step l.loops_left l.turns_left l.at ≡ with_step l.fn.loops l.fn.turns l.at

abbrev pub decreases-loop-loops_left : goal.decreases-loop-loops_left
decreases-loop-loops_left l = length l.loops_left

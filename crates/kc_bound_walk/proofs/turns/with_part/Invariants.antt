use Rattle.std.proofs.Common.{◌≡◌, ◌++◌, length}
use Rattle.kc_bound_walk.specs.Parts.{with_part}
use Rattle.kc_bound_walk.proofs.turns.with_part.Given as goal

abbrev pub invariant-loop-turns_left : goal.invariant-loop-turns_left
invariant-loop-turns_left l = l.all.items ++ with_part l.turns_left l.more_left ≡ with_part l.fn.turns l.fn.more

abbrev pub decreases-loop-turns_left : goal.decreases-loop-turns_left
decreases-loop-turns_left l = length l.turns_left

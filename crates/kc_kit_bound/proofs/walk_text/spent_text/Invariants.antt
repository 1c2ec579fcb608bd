use Rattle.std.proofs.Common.{◌≡◌, ◌++◌, length}
use Rattle.std.specs.Prelude.{flat_map}
use Rattle.kc_kit_bound.specs.Walks.{walk_line}
use Rattle.kc_kit_bound.proofs.walk_text.spent_text.Given as goal

abbrev pub invariant-loop-left : goal.invariant-loop-left
invariant-loop-left l = l.text.items ++ flat_map (walk_line l.lines) l.left ≡ flat_map (walk_line l.lines) l.fn.spent

abbrev pub decreases-loop-left : goal.decreases-loop-left
decreases-loop-left l = length l.left

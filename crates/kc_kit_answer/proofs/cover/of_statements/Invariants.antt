use Rattle.std.proofs.Common.{◌≡◌, ◌++◌, length}
use Rattle.std.specs.Prelude.{flat_map}
use Rattle.kc_kit_answer.specs.Cover.{instructions_of}
use Rattle.kc_kit_answer.proofs.cover.of_statements.Given as goal

abbrev pub invariant-loop-left : goal.invariant-loop-left
invariant-loop-left l = l.own.items ++ flat_map (instructions_of l.image l.base) l.left ≡ flat_map (instructions_of l.image l.base) l.fn.spots

abbrev pub decreases-loop-left : goal.decreases-loop-left
decreases-loop-left l = length l.left

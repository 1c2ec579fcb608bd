use Rattle.std.proofs.Common.{◌≡◌, ◌++◌, length}
use Rattle.kc_asm_origin.specs.Written as spec
use Rattle.kc_asm_origin.proofs.written.places_of.Given as goal

abbrev pub invariant-loop-left : goal.invariant-loop-left
invariant-loop-left l = l.places.items ++ spec.places_of l.number l.left ≡ spec.places_of l.number l.lines

abbrev pub decreases-loop-left : goal.decreases-loop-left
decreases-loop-left l = length l.left

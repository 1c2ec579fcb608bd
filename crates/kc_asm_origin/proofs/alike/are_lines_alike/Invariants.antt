use Rattle.std.proofs.Common.{◌≡◌, length}
use Rattle.kc_asm_origin.specs.Alike as spec
use Rattle.kc_asm_origin.proofs.alike.are_lines_alike.Given as goal

abbrev pub invariant-loop-left : goal.invariant-loop-left
invariant-loop-left l = spec.are_lines_alike l.left l.others ≡ spec.are_lines_alike l.first l.second

abbrev pub decreases-loop-left : goal.decreases-loop-left
decreases-loop-left l = length l.left

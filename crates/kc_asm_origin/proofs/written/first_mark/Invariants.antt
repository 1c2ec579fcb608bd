use Rattle.std.proofs.Common.{◌≡◌, length}
use Rattle.kc_asm_origin.specs.Written as spec
use Rattle.kc_asm_origin.proofs.written.first_mark.Given as goal

abbrev pub invariant-loop-left : goal.invariant-loop-left
invariant-loop-left l = spec.first_mark l.left ≡ spec.first_mark l.tokens

abbrev pub decreases-loop-left : goal.decreases-loop-left
decreases-loop-left l = length l.left

use Rattle.std.proofs.Common.{◌≡◌, ◌+◌, ◌++◌, length}
use Rattle.kc_asm_origin.specs.First as spec
use Rattle.kc_asm_origin.proofs.first.with_first.Given as goal

abbrev pub invariant-loop-left : goal.invariant-loop-left
invariant-loop-left l = record {
  value : l.copy.items ++ spec.with_first l.number l.keep l.left ≡ spec.with_first l.number l.k l.text;
  each : length l.copy.items + length l.left ≡ length l.text;
}

abbrev pub decreases-loop-left : goal.decreases-loop-left
decreases-loop-left l = length l.left

use Rattle.std.proofs.Common.{◌≡◌, ◌+◌, length}
use Rattle.kc_kit_files.specs.Shown.{bytes_of_first}
use Rattle.kc_kit_files.proofs.word.bytes_of_first.Given as goal

abbrev pub invariant-loop-left : goal.invariant-loop-left
invariant-loop-left l = record {
  same : bytes_of_first 80 l.fn.word ≡ l.end + bytes_of_first l.count l.left;
  within : l.end + length l.left ≡ length l.fn.word;
}

abbrev pub decreases-loop-left : goal.decreases-loop-left
decreases-loop-left l = length l.left

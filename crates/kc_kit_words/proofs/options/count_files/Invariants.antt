use Rattle.std.proofs.Common.{◌≡◌, ◌+◌, map, string_bytes, length}
use Rattle.kc_kit_words.specs.Words.{count_files}
use Rattle.kc_kit_words.proofs.options.count_files.Given as goal

abbrev pub invariant-loop-left : goal.invariant-loop-left
invariant-loop-left l = record {
  same : count_files (map string_bytes l.fn.words) ≡ l.count + count_files (map string_bytes l.left);
  within : l.count + length l.left ≡ length l.fn.words;
}

abbrev pub decreases-loop-left : goal.decreases-loop-left
decreases-loop-left l = length l.left

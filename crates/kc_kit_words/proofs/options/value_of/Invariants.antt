use Rattle.std.proofs.Common.{◌≡◌, map, string_bytes, length}
use Rattle.kc_kit_words.specs.Options.{value_of}
use Rattle.kc_kit_words.proofs.options.value_of.Given as goal

abbrev pub invariant-loop-word : goal.invariant-loop-word
invariant-loop-word l = value_of l.option (map string_bytes l.fn.words) ≡ value_of l.option (map string_bytes l.left)

abbrev pub decreases-loop-word : goal.decreases-loop-word
decreases-loop-word l = length l.left

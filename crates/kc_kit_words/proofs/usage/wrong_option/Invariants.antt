use Rattle.std.proofs.Common.{◌≡◌, map, string_bytes, length}
use Rattle.kc_kit_words.specs.Usage.{wrong_option}
use Rattle.kc_kit_words.proofs.usage.wrong_option.Given as goal

abbrev pub invariant-loop-option : goal.invariant-loop-option
invariant-loop-option l = wrong_option l.verb (map string_bytes l.fn.options) ≡ wrong_option l.verb (map string_bytes l.left)

abbrev pub decreases-loop-option : goal.decreases-loop-option
decreases-loop-option l = length l.left

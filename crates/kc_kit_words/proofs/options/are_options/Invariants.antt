use Rattle.std.proofs.Common.{◌≡◌, map, string_bytes, length}
use Rattle.kc_kit_words.specs.Options.{are_options}
use Rattle.kc_kit_words.proofs.options.are_options.Given as goal

abbrev pub invariant-loop-option : goal.invariant-loop-option
invariant-loop-option l = are_options l.verb (map string_bytes l.fn.words) ≡ are_options l.verb (map string_bytes l.left)

abbrev pub decreases-loop-option : goal.decreases-loop-option
decreases-loop-option l = length l.left

use Rattle.std.proofs.Common.{◌≡◌, map, string_bytes, length}
use Rattle.kc_kit_words.specs.Options.{inputs_of}
use Rattle.kc_kit_words.specs.Inputs.{inputs_in}
use Rattle.kc_kit_words.proofs.inputs.Inputs.split_first.Given as goal

abbrev pub invariant-loop-option : goal.invariant-loop-option
invariant-loop-option l = inputs_in l.fn.self ≡ inputs_of l.verb (map string_bytes l.left)

abbrev pub decreases-loop-option : goal.decreases-loop-option
decreases-loop-option l = length l.left

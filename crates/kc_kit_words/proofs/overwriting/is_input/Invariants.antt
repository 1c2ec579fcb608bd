use Rattle.std.proofs.Common.{◌≡◌, map, string_bytes, length}
use Rattle.std.specs.List.{list_any}
use Rattle.std.specs.Str.{bytes_eq}
use Rattle.kc_kit_words.specs.Commands.{names_of}
use Rattle.kc_kit_words.specs.Inputs.{inputs_in}
use Rattle.kc_kit_words.specs.Options.{inputs_of}
use Rattle.kc_kit_words.proofs.overwriting.is_input.Given as goal

abbrev pub invariant-loop-option : goal.invariant-loop-option
invariant-loop-option l = list_any (λ n. bytes_eq n l.name) (names_of (inputs_in l.fn.inputs)) ≡ list_any (λ n. bytes_eq n l.name) (names_of (inputs_of l.verb (map string_bytes l.left)))

abbrev pub decreases-loop-option : goal.decreases-loop-option
decreases-loop-option l = length l.left

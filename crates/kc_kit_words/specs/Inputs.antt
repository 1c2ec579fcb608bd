-- What the type of inputs shows (this kit's own).
use Rattle.std.specs.Prelude.{ℕ, List, [], ◌∷◌, map, string_bytes, Option, Some, None}
use Rattle.kc_kit_words.specs.declared.inputs.Role.{Role}
use Rattle.kc_kit_words.specs.declared.inputs.Input.{Input}
use Rattle.kc_kit_words.specs.declared.inputs.Inputs.{Inputs}
use Rattle.kc_kit_words.specs.Options.{inputs_of}

abbrev pub input_in : Input → Role × List ℕ
input_in input = (input.role, input.name.now)

abbrev pub inputs_in : Inputs → List (Role × List ℕ)
inputs_in inputs = inputs_of inputs.verb.now (map string_bytes inputs.words.now)

-- the first of a list, and the others
abbrev pub first_of : {A : Type 0} → List A → Option (A × List A)
first_of [] = None
first_of (x ∷ xs) = Some (x, xs)

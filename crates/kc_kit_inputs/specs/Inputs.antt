-- The files that options name for reading, each for a role (this kit's own).
use Rattle.std.specs.Prelude.{ℕ, Bool, true, false, List, ◌∷◌, Option, Some, None, if◌then◌else◌}
use Rattle.kc_kit_words.specs.declared.inputs.Role.{Role}
use Rattle.kc_kit_words.specs.declared.inputs.Role.TheVariants as role

abbrev pub is_role : Role → Role → Bool
is_role role.Stimuli role.Stimuli = true
is_role role.Analog role.Analog = true
is_role role.Library role.Library = true
is_role role.Lines role.Lines = true
is_role role.Map role.Map = true
is_role role.Notes role.Notes = true
is_role _ _ = false

-- the name and the text of the first of these files that is there for a role
abbrev pub input_for : Role → List (Role × List ℕ) → List (List ℕ) → Option (List ℕ × List ℕ)
input_for role (input ∷ inputs) (text ∷ texts) = if is_role input.0 role then Some (input.1, text) else input_for role inputs texts
input_for role _ _ = None

-- What is known of a name, and what a table of names has of it.
use Rattle.std.specs.Prelude.{◌≡◌, ℕ, Bool, true, false, not, ◌&&◌, ◌||◌, if◌then◌else◌, List, Option, Some, None, unwrap_or}
use Rattle.std.specs.Map.{lookup}
use Rattle.std.specs.Str.{bytes_eq}
use Rattle.std.specs.Global.{Vec}
use Rattle.kc_lex.specs.Codes.{defined_twice, many_names, not_public, not_external}
use Rattle.kc_source.specs.declared.names.Known.{Known}
use Rattle.kc_source.specs.declared.uses.Use.{Use}
use Rattle.kc_source.specs.declared.uses.UseKind.{UseKind}
use Rattle.kc_source.specs.declared.uses.UseKind.TheVariants.{Once, Again, Taken, Given}
use Rattle.kc_source.specs.Faults.{has_use, is_once, is_again, is_taken}

abbrev pub nothing : Known
nothing = record { once = false; again = false; taken = false }

-- what the entries of a table have of a name
abbrev pub known_at : List (Vec ℕ × Known) → List ℕ → Known
known_at es name = unwrap_or (lookup (λ k. bytes_eq name k.items) es) nothing

abbrev pub joined : Known → UseKind → Known
joined k Once = record k { once = true }
joined k Again = record k { again = true }
joined k Taken = record k { taken = true }
joined k Given = k

-- what some uses say of a name
abbrev pub summary : List Use → List ℕ → Known
summary us name = record { once = has_use is_once name us; again = has_use is_again name us; taken = has_use is_taken name us }

-- the table has of each name what the uses say
abbrev pub IsTable : List (Vec ℕ × Known) → List Use → Type 0
IsTable es us = (name : List ℕ) → known_at es name ≡ summary us name

abbrev pub is_defined_name : Known → Bool
is_defined_name k = k.once || k.again

-- whether a use of this kind brings a name of which so much is known
abbrev pub brings : UseKind → Known → Bool
brings kind k = (is_once kind || is_again kind || is_taken kind) && not (is_defined_name k || k.taken)

-- the code of a use, by what is known of its name before and in all
abbrev pub known_code : UseKind → Known → Known → Bool → Option ℕ
known_code Once before all too_many = if is_defined_name before then Some defined_twice else (if too_many then Some many_names else None)
known_code Again before all too_many = if before.once then Some defined_twice else (if too_many then Some many_names else None)
known_code Taken before all too_many = if too_many then Some many_names else (if before.taken || is_defined_name all then Some not_external else None)
known_code Given before all too_many = if is_defined_name all then None else Some not_public

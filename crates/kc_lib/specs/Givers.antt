-- Names as they are kept by hash, each with the first module that gives it.
use Rattle.std.specs.Prelude.{◌≡◌, ℕ, ◌+◌, if◌then◌else◌, Option, Some, None, List, [], ◌∷◌}
use Rattle.std.specs.Str.{bytes_eq}
use Rattle.std.specs.Map.{lookup}
use Rattle.std.specs.Global.{Vec}
use Rattle.kc_obj_module.specs.Object.{Object}
use Rattle.kc_lib.specs.Names.{gives}

-- the number of the first module that gives a name
unfoldable pub giver_from : ℕ → List Object → List ℕ → Option ℕ
giver_from number [] name = None
giver_from number (m ∷ ms) name = if gives name m then Some number else giver_from (number + 1) ms name

abbrev pub giver_of : List Object → List ℕ → Option ℕ
giver_of ms name = giver_from 0 ms name

abbrev pub found_in : List (Vec ℕ × ℕ) → List ℕ → Option ℕ
found_in entries name = lookup (λ k. bytes_eq name k.items) entries

abbrev pub Knows : List (Vec ℕ × ℕ) → List Object → Type 0
Knows entries modules = (name : List ℕ) → found_in entries name ≡ giver_of modules name

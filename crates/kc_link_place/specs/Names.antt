-- Which module gives a name, and the rules on names.
use Rattle.std.specs.Prelude.{◌≡◌, ℕ, Bool, false, ◌+◌, nat_lt, if◌then◌else◌, Option, Some, None, is_some, List, [], ◌∷◌}
use Rattle.std.specs.Option.{option_or}
use Rattle.std.specs.Str.{bytes_eq}
use Rattle.std.specs.Map.{lookup}
use Rattle.std.specs.Global.{Vec}
use Rattle.kc_obj_module.specs.declared.parts.Given.{Given}
use Rattle.kc_obj_module.specs.declared.parts.Taken.{Taken}
use Rattle.kc_obj_module.specs.Object.{Object}
use Rattle.kc_obj_module.specs.Names.{is_stack_name}
use Rattle.kc_link_place.specs.declared.names.DefiningModule.{DefiningModule}

abbrev pub defining : ℕ → Given → DefiningModule
defining index g = record { index = index; piece = g.piece; value = g.value }

abbrev pub defining_among : ℕ → List Given → List ℕ → Option DefiningModule
defining_among index [] name = None
defining_among index (g ∷ gs) name = if bytes_eq g.name name then Some (defining index g) else defining_among index gs name

unfoldable pub defining_from : ℕ → List Object → List ℕ → Option DefiningModule
defining_from index [] name = None
defining_from index (m ∷ ms) name = option_or (defining_among index m.publics name) (defining_from (index + 1) ms name)

-- the first module that makes a name public, with the place or number that it gives
abbrev pub defining_of : List Object → List ℕ → Option DefiningModule
defining_of modules name = defining_from 0 modules name

-- ---- a name is taken that no module gives: STACK is given where there is a stack

abbrev pub is_resolved : List Object → ℕ → List ℕ → Bool
is_resolved modules stack name = if is_stack_name name then nat_lt 0 stack else is_some (defining_of modules name)

abbrev pub first_missing : List Object → ℕ → List Taken → Option (List ℕ)
first_missing modules stack [] = None
first_missing modules stack (t ∷ ts) = if is_resolved modules stack t.name then first_missing modules stack ts else Some t.name

unfoldable pub unresolved : List Object → ℕ → List Object → Option (List ℕ)
unresolved modules stack [] = None
unresolved modules stack (m ∷ ms) = option_or (first_missing modules stack m.externals) (unresolved modules stack ms)

-- ---- a name is given that an earlier module gives

abbrev pub comes_later : Option DefiningModule → ℕ → Bool
comes_later None index = false
comes_later (Some h) index = nat_lt h.index index

abbrev pub first_second : List Object → ℕ → List Given → Option (List ℕ)
first_second modules index [] = None
first_second modules index (g ∷ gs) = if comes_later (defining_of modules g.name) index then Some g.name else first_second modules index gs

unfoldable pub doubled : List Object → ℕ → List Object → Option (List ℕ)
doubled modules index [] = None
doubled modules index (m ∷ ms) = option_or (first_second modules index m.publics) (doubled modules (index + 1) ms)

-- ---- the names as they are kept by hash

abbrev pub found_in : List (Vec ℕ × DefiningModule) → List ℕ → Option DefiningModule
found_in entries name = lookup (λ k. bytes_eq name k.items) entries

-- each name of the modules with its home
abbrev pub Knows : List (Vec ℕ × DefiningModule) → List Object → Type 0
Knows entries modules = (name : List ℕ) → found_in entries name ≡ defining_of modules name

abbrev pub if_same : List ℕ → List ℕ → DefiningModule → Option DefiningModule
if_same a b h = if bytes_eq a b then Some h else None

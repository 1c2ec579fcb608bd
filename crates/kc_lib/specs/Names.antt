-- Names that modules take and give (after the librarian of the MCS-96 utilities, in outline).
use Rattle.std.specs.Prelude.{◌≡◌, ℕ, Bool, true, false, if◌then◌else◌, Option, Some, None, List, [], ◌∷◌, ◌++◌, slice_get}
use Rattle.std.specs.List.{list_any}
use Rattle.std.specs.Option.{option_or}
use Rattle.std.specs.Str.{bytes_eq}
use Rattle.kc_obj_module.specs.declared.parts.Given.{Given}
use Rattle.kc_obj_module.specs.Object.{Object}

-- a module has an external of this name
abbrev pub takes : List ℕ → Object → Bool
takes name m = list_any (λ t. bytes_eq t.name name) m.externals

-- a module makes this name public
abbrev pub gives : List ℕ → Object → Bool
gives name m = list_any (λ g. bytes_eq g.name name) m.publics

abbrev pub is_taken : List Object → List ℕ → Bool
is_taken ms name = list_any (takes name) ms

abbrev pub is_given : List Object → List ℕ → Bool
is_given ms name = list_any (gives name) ms

-- no name is public in two modules
abbrev pub GivenOnce : List Object → Type 0
GivenOnce ms = (i j : ℕ) (m n : Object) (name : List ℕ) → slice_get ms i ≡ Some m → slice_get ms j ≡ Some n → gives name m ≡ true → gives name n ≡ true → i ≡ j

-- ---- the first name that is public in a second module: by modules, and in each by its publics

abbrev pub second_of : List Object → List Given → Option (List ℕ)
second_of before [] = None
second_of before (g ∷ gs) = if is_given before g.name then Some g.name else second_of before gs

unfoldable pub doubled_behind : List Object → List Object → Option (List ℕ)
doubled_behind before [] = None
doubled_behind before (m ∷ ms) = option_or (second_of before m.publics) (doubled_behind (before ++ m ∷ []) ms)

abbrev pub doubled : List Object → Option (List ℕ)
doubled ms = doubled_behind [] ms

-- where that name stands: the modules before its module, and the publics before it in its module, have none of the kind
pub record IsFirstDouble (ms : List Object) (name : List ℕ) : Type 0 where
  pub before : List Object
  pub m : Object
  pub behind : List Object
  pub modules : ms ≡ before ++ m ∷ behind
  pub passed : List Given
  pub given : Given
  pub others : List Given
  pub publics : m.publics ≡ passed ++ given ∷ others
  pub is_name : given.name ≡ name
  pub is_second : is_given before name ≡ true
  pub no_module_before : GivenOnce before
  pub no_public_before : list_any (λ g. is_given before g.name) passed ≡ false

-- How far each member is while the needed ones are sought.
use Rattle.std.specs.Prelude.{◌≡◌, ℕ, ◌+◌, Bool, true, false, ◌||◌, if◌then◌else◌, Option, Some, None, List, [], ◌∷◌, slice_get, slice_set, position}
use Rattle.kc_obj_module.specs.declared.parts.Taken.{Taken}
use Rattle.kc_obj_module.specs.Object.{Object}
use Rattle.kc_obj_module.specs.Names.{is_stack_name}
use Rattle.kc_lib.specs.declared.taking.Standing.{Standing}
use Rattle.kc_lib.specs.declared.taking.Standing.TheVariants.{Out, Called, Settled}
use Rattle.kc_lib.specs.Names.{is_taken, is_given}
use Rattle.kc_lib.specs.Givers.{giver_of}
use Rattle.kc_lib.specs.Taking.{Closed}

abbrev pub is_needed : Option Standing → Bool
is_needed None = false
is_needed (Some Out) = false
is_needed (Some Called) = true
is_needed (Some Settled) = true

-- the set of the members that are not out
abbrev pub is_in : List Standing → ℕ → Bool
is_in st number = is_needed (slice_get st number)

-- the member that a name needs
abbrev pub needed : List Object → List Object → List ℕ → Option ℕ
needed modules members name = if is_stack_name name || is_given modules name then None else giver_of members name

abbrev pub called_if_out : Option Standing → List Standing → ℕ → List Standing
called_if_out (Some Out) st number = slice_set st number Called
called_if_out _ st number = st

abbrev pub called : Option ℕ → List Standing → List Standing
called None st = st
called (Some number) st = called_if_out (slice_get st number) st number

abbrev pub called_all : List Object → List Object → List Taken → List Standing → List Standing
called_all modules members [] st = st
called_all modules members (t ∷ ts) st = called_all modules members ts (called (needed modules members t.name) st)

abbrev pub called_by : List Object → List Object → List Object → List Standing → List Standing
called_by modules members [] st = st
called_by modules members (m ∷ ms) st = called_by modules members ms (called_all modules members m.externals st)

abbrev pub is_called : Standing → Bool
is_called Called = true
is_called _ = false

abbrev pub first_called : List Standing → Option ℕ
first_called st = position is_called st

-- how much is still to be done
abbrev pub work_of : Standing → ℕ
work_of Out = 2
work_of Called = 1
work_of Settled = 0

abbrev pub work : List Standing → ℕ
work [] = 0
work (s ∷ ss) = work_of s + work ss

-- what some modules need is not out
abbrev pub AreAnswered : List Object → List Object → List Standing → List Object → Type 0
AreAnswered modules members st callers = (name : List ℕ) (number : ℕ) → is_taken callers name ≡ true → needed modules members name ≡ Some number → is_in st number ≡ true

-- what is not out is in every closed set; what the modules and the settled members need is not out
pub record IsUnderWay (modules members : List Object) (st : List Standing) : Type 0 where
  pub least : (other : ℕ → Bool) → Closed modules members other → (number : ℕ) → is_in st number ≡ true → other number ≡ true
  pub by_modules : AreAnswered modules members st modules
  pub by_settled : (number : ℕ) (m : Object) → slice_get st number ≡ Some Settled → slice_get members number ≡ Some m → AreAnswered modules members st (m ∷ [])

-- The members of a library that modules need (after RL96 of the MCS-96 utilities, in outline).
use Rattle.std.specs.Prelude.{◌≡◌, ℕ, ◌+◌, ◌<◌, Bool, true, false, if◌then◌else◌, List, [], ◌∷◌, ◌++◌, length}
use Rattle.kc_obj_module.specs.Object.{Object}
use Rattle.kc_obj_module.specs.Names.{is_stack_name}
use Rattle.kc_lib.specs.Names.{is_taken, is_given}

-- the members whose numbers are in a set, in the order of the library (number: that of the first member)
unfoldable pub chosen_from : ℕ → (ℕ → Bool) → List Object → List Object
chosen_from number set [] = []
chosen_from number set (m ∷ ms) = if set number then m ∷ chosen_from (number + 1) set ms else chosen_from (number + 1) set ms

abbrev pub chosen : (ℕ → Bool) → List Object → List Object
chosen set members = chosen_from 0 set members

-- each name that the modules or members in the set take, that no module gives and that some member gives, is given by a
-- member in the set; STACK is no such name
abbrev pub Closed : List Object → List Object → (ℕ → Bool) → Type 0
Closed modules members set =
    (name : List ℕ) → is_taken (modules ++ chosen set members) name ≡ true → is_stack_name name ≡ false → is_given modules name ≡ false
    → is_given members name ≡ true → is_given (chosen set members) name ≡ true

abbrev pub Contains : List Object → (ℕ → Bool) → (ℕ → Bool) → Type 0
Contains members set other = (number : ℕ) → number < length members → other number ≡ true → set number ≡ true

-- the set is closed, and every closed set contains it
pub record IsLeast (modules members : List Object) (set : ℕ → Bool) : Type 0 where
  pub closed : Closed modules members set
  pub least : (other : ℕ → Bool) → Closed modules members other → Contains members other set

-- the members that modules take from a library
pub record AreTaken (modules members taken : List Object) : Type 0 where
  pub set : ℕ → Bool
  pub is_least : IsLeast modules members set
  pub in_order : taken ≡ chosen set members

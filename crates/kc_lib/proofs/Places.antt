-- Elements of a list by their places.
use Rattle.std.proofs.Common.{◌≡◌, ℕ, zero, suc, ◌≢◌, ◌⊎◌, inl, inr, Bool, true, List, [], ◌∷◌, ◌++◌, length, set, Some, refl, ap}
use Rattle.std.specs.Prelude.{slice_get}
use Rattle.std.specs.List.{list_any}
use Rattle.std.proofs.lemmas.Bool.{or_cases, or_left, or_right}

-- an element that passes a test
pub record Found {X : Type 0} (p : X → Bool) (xs : List X) : Type 0 where
  pub at : ℕ
  pub x : X
  pub is_there : slice_get xs at ≡ Some x
  pub passes : p x ≡ true

pub found : {X : Type 0} (p : X → Bool) (xs : List X) → list_any p xs ≡ true → Found p xs
found p [] h = absurd (cc h)
found p (x ∷ xs) h =
    elim (or_cases (p x) (list_any p xs) h) [
      | inl e ↦ record { at = 0; x = x; is_there = refl; passes = e }
      | inr e ↦ let f = found p xs e in record { at = suc f.at; x = f.x; is_there = f.is_there; passes = f.passes }
    ]

pub any_at : {X : Type 0} (p : X → Bool) (xs : List X) (i : ℕ) (x : X) → slice_get xs i ≡ Some x → p x ≡ true → list_any p xs ≡ true
any_at p [] i x h e = absurd (cc h)
any_at p (y ∷ xs) zero x h e = let same : y ≡ x = cc h in or_left (p y) (list_any p xs) (rw same e)
any_at p (y ∷ xs) (suc i) x h e = or_right (p y) (list_any p xs) (any_at p xs i x h e)

pub get_left : {X : Type 0} (xs ys : List X) (i : ℕ) (x : X) → slice_get xs i ≡ Some x → slice_get (xs ++ ys) i ≡ Some x
get_left [] ys i x h = absurd (cc h)
get_left (y ∷ xs) ys zero x h = h
get_left (y ∷ xs) ys (suc i) x h = get_left xs ys i x h

pub get_seam : {X : Type 0} (xs ys : List X) (x : X) → slice_get (xs ++ x ∷ ys) (length xs) ≡ Some x
get_seam [] ys x = refl
get_seam (y ∷ xs) ys x = get_seam xs ys x

-- an element of a list with one more at its end
pub get_push : {X : Type 0} (xs : List X) (y : X) (i : ℕ) (x : X) → slice_get (xs ++ y ∷ []) i ≡ Some x → (slice_get xs i ≡ Some x) ⊎ ((i ≡ length xs) × (y ≡ x))
get_push [] y zero x h = inr (refl, cc h)
get_push [] y (suc i) x h = absurd (cc h)
get_push (z ∷ xs) y zero x h = inl h
get_push (z ∷ xs) y (suc i) x h =
    elim (get_push xs y i x h) [
      | inl e ↦ inl e
      | inr e ↦ inr (ap suc e.0, e.1)
    ]

pub set_same : {X : Type 0} (xs : List X) (n : ℕ) (x y : X) → slice_get xs n ≡ Some x → slice_get (set xs n y) n ≡ Some y
set_same [] n x y h = absurd (cc h)
set_same (z ∷ xs) zero x y h = refl
set_same (z ∷ xs) (suc n) x y h = set_same xs n x y h

pub set_other : {X : Type 0} (xs : List X) (n k : ℕ) (y : X) → k ≢ n → slice_get (set xs n y) k ≡ slice_get xs k
set_other [] n k y h = refl
set_other (z ∷ xs) zero zero y h = absurd (h refl)
set_other (z ∷ xs) zero (suc k) y h = refl
set_other (z ∷ xs) (suc n) zero y h = refl
set_other (z ∷ xs) (suc n) (suc k) y h = set_other xs n k y (λ e. h (ap suc e))

-- What a pass changes, and what stays at rest.
use Rattle.std.proofs.Common.{◌≡◌, ℕ, zero, suc, Bool, true, false, ◌+◌, ◌-◌, ◌%◌, ◌≤◌, ◌&&◌, ◌||◌, ◌==◌, ◌⊎◌, inl, inr, List, [], ◌∷◌, ◌++◌, length, refl, ap, sym, ◌∙◌, arith}
use Rattle.std.specs.Prelude.{not, nat_lt, slice_index}
use Rattle.kc_branch.specs.declared.piece.Piece.{Piece}
use Rattle.kc_branch.specs.declared.piece.Piece.TheVariants.{Bytes, Even, At, Branch}
use Rattle.kc_branch.specs.declared.piece.Form.{Form}
use Rattle.kc_branch.specs.declared.stretch.Stretch.{Stretch}
use Rattle.kc_branch.specs.Forms.{size, end_of}
use Rattle.kc_branch.specs.Layouts.{any_in, end_place, stands, has_at, has_even, only_moves, Changes, IsKnown}
use Rattle.kc_branch.proofs.Spanning.{earlier, first_is, later, narrower}

-- ---- a stretch that only moves

stays_put : (xs : List (Piece × Form)) (ss : List Bool) (a b : ℕ) → length ss ≡ length xs → a ≡ b → Changes xs xs ss a b
stays_put [] [] a b l e = tt
stays_put [] (s ∷ ss) a b l e = absurd (omega arith)
stays_put (x ∷ xs) [] a b l e = absurd (omega arith)
stays_put (x ∷ xs) (s ∷ ss) a b l e =
    let same : end_of x.0 x.1 a ≡ end_of x.0 x.1 b = ap (λ n. end_of x.0 x.1 n) e in
    (λ _. (refl, omega arith), stays_put xs ss (end_of x.0 x.1 a) (end_of x.0 x.1 b) (omega arith) same)

moves_plain : (xs : List (Piece × Form)) (ss : List Bool) (a b : ℕ) → length ss ≡ length xs → has_at xs ≡ false → has_even xs ≡ false → Changes xs xs ss a b
moves_plain [] [] a b l h e = tt
moves_plain [] (s ∷ ss) a b l h e = absurd (omega arith)
moves_plain (x ∷ xs) [] a b l h e = absurd (omega arith)
moves_plain ((Bytes m, f) ∷ xs) (s ∷ ss) a b l h e = (λ _. (refl, omega arith), moves_plain xs ss (a + m) (b + m) (omega arith) h e)
moves_plain ((Even, f) ∷ xs) (s ∷ ss) a b l h e = absurd (cc e)
moves_plain ((At m, f) ∷ xs) (s ∷ ss) a b l h e = absurd (cc h)
moves_plain ((Branch kind target, f) ∷ xs) (s ∷ ss) a b l h e = (λ _. (refl, omega arith), moves_plain xs ss (a + size kind f) (b + size kind f) (omega arith) h e)

moves_by_two : (xs : List (Piece × Form)) (ss : List Bool) (a b : ℕ) → length ss ≡ length xs → has_at xs ≡ false → a % 2 ≡ b % 2 → Changes xs xs ss a b
moves_by_two [] [] a b l h e = tt
moves_by_two [] (s ∷ ss) a b l h e = absurd (omega arith)
moves_by_two (x ∷ xs) [] a b l h e = absurd (omega arith)
moves_by_two ((Bytes m, f) ∷ xs) (s ∷ ss) a b l h e = (λ _. (refl, omega arith), moves_by_two xs ss (a + m) (b + m) (omega arith) h (omega arith))
moves_by_two ((Even, f) ∷ xs) (s ∷ ss) a b l h e = (λ _. (refl, omega arith), moves_by_two xs ss (a + a % 2) (b + b % 2) (omega arith) h (omega arith))
moves_by_two ((At m, f) ∷ xs) (s ∷ ss) a b l h e = absurd (cc h)
moves_by_two ((Branch kind target, f) ∷ xs) (s ∷ ss) a b l h e = (λ _. (refl, omega arith), moves_by_two xs ss (a + size kind f) (b + size kind f) (omega arith) h (omega arith))

by_rest : (at even : Bool) (i j p q : ℕ) → (not at && (not even || (p == q))) ≡ true →
    (i ≡ j) ⊎ ((at ≡ false) × (even ≡ false)) ⊎ ((at ≡ false) × (p ≡ q))
by_rest true even i j p q h = absurd (cc h)
by_rest false false i j p q h = inr (inl (refl, refl))
by_rest false true i j p q h = inr (inr (refl, grind arith))

-- the three ways in which a stretch only moves
by_test : (at even : Bool) (i j p q : ℕ) → ((i == j) || (not at && (not even || (p == q)))) ≡ true →
    (i ≡ j) ⊎ ((at ≡ false) × (even ≡ false)) ⊎ ((at ≡ false) × (p ≡ q))
by_test at even i j p q h =
    elim (i == j) as (λ b. (i == j) ≡ b → (b || (not at && (not even || (p == q)))) ≡ true → (i ≡ j) ⊎ ((at ≡ false) × (even ≡ false)) ⊎ ((at ≡ false) × (p ≡ q))) [
      | true ↦ λ e _. inl (grind arith)
      | false ↦ λ _ g. by_rest at even i j p q g
    ] refl h

pub only_moves_changes : (s : Stretch) (xs : List (Piece × Form)) (us ss : List Bool) (a b : ℕ) → IsKnown s xs us → length ss ≡ length xs → only_moves s a b ≡ true → Changes xs xs ss a b
only_moves_changes s xs us ss a b k l h =
    elim (by_test s.has_at s.has_even a b (a % 2) (b % 2) h) as (λ _. Changes xs xs ss a b) [
      | inl e ↦ stays_put xs ss a b l e
      | inr (inl e) ↦ moves_plain xs ss a b l (sym k.has_at ∙ e.0) (sym k.has_even ∙ e.1)
      | inr (inr e) ↦ moves_by_two xs ss a b l (sym k.has_at ∙ e.0) e.1
    ]

-- ---- a list behind another

pub changes-append : (xs ys : List (Piece × Form)) (ss : List Bool) (xs' ys' : List (Piece × Form)) (ss' : List Bool) (a b : ℕ) →
    Changes xs ys ss a b → Changes xs' ys' ss' (end_place xs a) (end_place ys b) → Changes (xs ++ xs') (ys ++ ys') (ss ++ ss') a b
changes-append [] [] [] xs' ys' ss' a b h g = g
changes-append [] [] (s ∷ ss) xs' ys' ss' a b h g = absurd h
changes-append [] (y ∷ ys) ss xs' ys' ss' a b h g = absurd h
changes-append (x ∷ xs) [] ss xs' ys' ss' a b h g = absurd h
changes-append (x ∷ xs) (y ∷ ys) [] xs' ys' ss' a b h g = absurd h
changes-append (x ∷ xs) (y ∷ ys) (s ∷ ss) xs' ys' ss' a b h g =
    (h.0, changes-append xs ys ss xs' ys' ss' (end_of x.0 x.1 a) (end_of y.0 y.1 b) h.1 g)

-- ---- from one place to another

-- a piece that stands in a range where none was changed
pub head_at_rest : (s : Bool) (ss : List Bool) (j : ℕ) → any_in (s ∷ ss) 0 (suc j) ≡ false → s ≡ false
head_at_rest true ss j h = absurd (first_is j (earlier _ (any_in ss (0 - 1) (suc j - 1)) h))
head_at_rest false ss j h = refl

pub tail_at_rest : (s : Bool) (ss : List Bool) (i j k l : ℕ) → i ≤ k + 1 → l ≤ j - 1 → any_in (s ∷ ss) i j ≡ false → any_in ss k l ≡ false
tail_at_rest s ss i j k l a b h = narrower ss (i - 1) (j - 1) k l (omega arith) (omega arith) (later (s && (i == 0) && nat_lt 0 j) (any_in ss (i - 1) (j - 1)) h)

from_first : (xs ys : List (Piece × Form)) (ss : List Bool) (a b j : ℕ) → Changes xs ys ss a b → j ≤ length xs → any_in ss 0 j ≡ false →
    slice_index (stands xs a) j + b ≡ slice_index (stands ys b) j + a
from_first [] [] [] a b zero h le r = omega arith
from_first [] [] [] a b (suc j) h le r = absurd (omega arith)
from_first [] [] (s ∷ ss) a b j h le r = absurd h
from_first [] (y ∷ ys) ss a b j h le r = absurd h
from_first (x ∷ xs) [] ss a b j h le r = absurd h
from_first (x ∷ xs) (y ∷ ys) [] a b j h le r = absurd h
from_first (x ∷ xs) (y ∷ ys) (s ∷ ss) a b zero h le r = omega arith
from_first (x ∷ xs) (y ∷ ys) (s ∷ ss) a b (suc j) h le r =
    let here = (h.0 (head_at_rest s ss j r)).1 in
    let rest = from_first xs ys ss (end_of x.0 x.1 a) (end_of y.0 y.1 b) j h.1 (omega arith) (tail_at_rest s ss 0 (suc j) 0 j (omega arith) (omega arith) r) in
    omega (arith, here, rest)

pub between : (xs ys : List (Piece × Form)) (ss : List Bool) (a b i j : ℕ) → Changes xs ys ss a b → i ≤ j → j ≤ length xs → any_in ss i j ≡ false →
    slice_index (stands xs a) i + slice_index (stands ys b) j ≡ slice_index (stands xs a) j + slice_index (stands ys b) i
between [] [] [] a b zero zero h lt le r = refl
between [] [] [] a b i (suc j) h lt le r = absurd (omega arith)
between [] [] [] a b (suc i) zero h lt le r = absurd (omega arith)
between [] [] (s ∷ ss) a b i j h lt le r = absurd h
between [] (y ∷ ys) ss a b i j h lt le r = absurd h
between (x ∷ xs) [] ss a b i j h lt le r = absurd h
between (x ∷ xs) (y ∷ ys) [] a b i j h lt le r = absurd h
between (x ∷ xs) (y ∷ ys) (s ∷ ss) a b zero j h lt le r = omega (arith, from_first (x ∷ xs) (y ∷ ys) (s ∷ ss) a b j h le r)
between (x ∷ xs) (y ∷ ys) (s ∷ ss) a b (suc i) zero h lt le r = absurd (omega arith)
between (x ∷ xs) (y ∷ ys) (s ∷ ss) a b (suc i) (suc j) h lt le r =
    between xs ys ss (end_of x.0 x.1 a) (end_of y.0 y.1 b) i j h.1 (omega arith) (omega arith) (tail_at_rest s ss (suc i) (suc j) i j (omega arith) (omega arith) r)

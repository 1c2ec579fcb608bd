-- Longer forms leave no places nearer to one another, where no At and no Even stands behind a branch.
use Rattle.std.proofs.Common.{◌≡◌, ℕ, zero, suc, true, ◌+◌, ◌%◌, ◌≤◌, leb, ◌⊎◌, inl, inr, List, [], ◌∷◌, length, Option, ℤ, drop, refl, ap, ◌∙◌, arith}
use Rattle.std.specs.Prelude.{slice_index}
use Rattle.std.proofs.lemmas.Bool.{and_parts}
use Rattle.kc_branch.specs.declared.piece.Piece.{Piece}
use Rattle.kc_branch.specs.declared.piece.Piece.TheVariants.{Bytes, Even, At, Branch}
use Rattle.kc_branch.specs.declared.piece.BranchKind.{BranchKind}
use Rattle.kc_branch.specs.declared.piece.BranchKind.TheVariants.{Jump, Call, Conditional, BitTest}
use Rattle.kc_branch.specs.declared.piece.Form.{Form}
use Rattle.kc_branch.specs.declared.piece.Form.TheVariants.{First, Second, Third}
use Rattle.kc_branch.specs.Forms.{size, head_form, places, start_forms}
use Rattle.kc_branch.specs.Laws.{rank, no_longer, no_at, no_even, evens_lead, IsPlain}
use Rattle.kc_branch.proofs.Reaching.{count_branch}

size_grows : (kind : BranchKind) (f g : Form) → leb (rank f) (rank g) ≡ true → size kind f ≤ size kind g
size_grows Jump First First h = omega arith
size_grows Jump First Second h = omega arith
size_grows Jump First Third h = omega arith
size_grows Jump Second First h = cc
size_grows Jump Second Second h = omega arith
size_grows Jump Second Third h = omega arith
size_grows Jump Third First h = cc
size_grows Jump Third Second h = cc
size_grows Jump Third Third h = omega arith
size_grows Call First First h = omega arith
size_grows Call First Second h = omega arith
size_grows Call First Third h = omega arith
size_grows Call Second First h = cc
size_grows Call Second Second h = omega arith
size_grows Call Second Third h = omega arith
size_grows Call Third First h = cc
size_grows Call Third Second h = cc
size_grows Call Third Third h = omega arith
size_grows Conditional First First h = omega arith
size_grows Conditional First Second h = omega arith
size_grows Conditional First Third h = omega arith
size_grows Conditional Second First h = cc
size_grows Conditional Second Second h = omega arith
size_grows Conditional Second Third h = omega arith
size_grows Conditional Third First h = cc
size_grows Conditional Third Second h = cc
size_grows Conditional Third Third h = omega arith
size_grows BitTest First First h = omega arith
size_grows BitTest First Second h = omega arith
size_grows BitTest First Third h = omega arith
size_grows BitTest Second First h = cc
size_grows BitTest Second Second h = omega arith
size_grows BitTest Second Third h = omega arith
size_grows BitTest Third First h = cc
size_grows BitTest Third Second h = cc
size_grows BitTest Third Third h = omega arith

-- two layouts of the same pieces begin at places from which an Even that comes is the same in both
abbrev Steady : List Piece → ℕ → ℕ → Type 0
Steady xs a b = (no_even xs ≡ true) ⊎ ((a ≡ b) × (evens_lead xs ≡ true))

-- from places a and b to places c and d: neither goes back, and the second goes as far or farther
pub record Wider (a b c d : ℕ) : Type 0 where
  pub first : a ≤ c
  pub second : b ≤ d
  pub grows : c + b ≤ d + a

join : (a b c d e f : ℕ) → Wider a b c d → Wider c d e f → Wider a b e f
join a b c d e f u v = record { first = omega arith; second = omega arith; grows = omega arith }

-- ---- one piece

abbrev pub Goes : List Piece → ℕ → ℕ → ℕ → ℕ → Type 0
Goes xs a b c d = Wider a b c d × Steady xs c d

-- the parts of "no longer" at a branch
pub record Parts (fs gs : List Form) (n : ℕ) : Type 0 where
  pub head : leb (rank (head_form fs)) (rank (head_form gs)) ≡ true
  pub later : no_longer (drop 1 fs) (drop 1 gs) ≡ true
  pub first_length : length (drop 1 fs) ≡ n
  pub second_length : length (drop 1 gs) ≡ n

pub parts : (fs gs : List Form) (n : ℕ) → no_longer fs gs ≡ true → length fs ≡ suc n → length gs ≡ suc n → Parts fs gs n
unfolding no_longer
parts [] gs n h e d = absurd (omega arith)
parts (f ∷ fs) [] n h e d = absurd (omega arith)
parts (f ∷ fs) (g ∷ gs) n h e d =
    let both = and_parts (leb (rank f) (rank g)) (no_longer fs gs) h in
    record { head = both.0; later = both.1; first_length = omega arith; second_length = omega arith }

by_bytes : (n : ℕ) (xs : List Piece) (a b : ℕ) → Steady (Bytes n ∷ xs) a b → Goes xs a b (a + n) (b + n)
unfolding no_even evens_lead
by_bytes n xs a b (inl h) = (record { first = omega arith; second = omega arith; grows = omega arith }, inl h)
by_bytes n xs a b (inr h) = (record { first = omega arith; second = omega arith; grows = omega arith }, inr (omega arith, h.1))

by_even : (xs : List Piece) (a b : ℕ) → Steady (Even ∷ xs) a b → Goes xs a b (a + a % 2) (b + b % 2)
unfolding no_even evens_lead
by_even xs a b (inl h) = absurd (cc h)
by_even xs a b (inr h) =
    let same : a + a % 2 ≡ b + b % 2 = ap (λ n. n + n % 2) h.0 in
    (record { first = omega arith; second = omega arith; grows = omega arith }, inr (same, h.1))

by_branch : (kind : BranchKind) (target : Option (ℕ × ℤ)) (f g : Form) (xs : List Piece) (a b : ℕ) → leb (rank f) (rank g) ≡ true → Steady (Branch kind target ∷ xs) a b → Goes xs a b (a + size kind f) (b + size kind g)
unfolding no_even evens_lead
by_branch kind target f g xs a b le (inl h) =
    let grows = size_grows kind f g le in
    (record { first = omega arith; second = omega arith; grows = omega arith }, inl h)
by_branch kind target f g xs a b le (inr h) =
    let grows = size_grows kind f g le in
    (record { first = omega arith; second = omega arith; grows = omega arith }, inl h.1)

-- ---- a list of pieces

pub record Choices (xs : List Piece) (fs gs : List Form) : Type 0 where
  pub first : length fs ≡ length (start_forms xs)
  pub second : length gs ≡ length (start_forms xs)
  pub longer : no_longer fs gs ≡ true

choices_after : (kind : BranchKind) (target : Option (ℕ × ℤ)) (xs : List Piece) (fs gs : List Form) → Choices (Branch kind target ∷ xs) fs gs → Parts fs gs (length (start_forms xs))
choices_after kind target xs fs gs c = parts fs gs (length (start_forms xs)) c.longer (c.first ∙ count_branch kind target xs) (c.second ∙ count_branch kind target xs)

abbrev place : List Piece → List Form → ℕ → ℕ → ℕ
place xs fs a k = slice_index (places xs fs a) k

-- from the first place to any other
from_start : (xs : List Piece) (fs gs : List Form) (a b j : ℕ) → no_at xs ≡ true → Steady xs a b → Choices xs fs gs → j ≤ length xs →
    Wider a b (place xs fs a j) (place xs gs b j)
unfolding places no_at start_forms
from_start [] fs gs a b zero n s c le = record { first = omega arith; second = omega arith; grows = omega arith }
from_start [] fs gs a b (suc j) n s c le = absurd (omega arith)
from_start (x ∷ xs) fs gs a b zero n s c le = record { first = omega arith; second = omega arith; grows = omega arith }
from_start (Bytes m ∷ xs) fs gs a b (suc j) n s c le =
    let goes = by_bytes m xs a b s in
    join a b (a + m) (b + m) _ _ goes.0 (from_start xs fs gs (a + m) (b + m) j n goes.1 record { first = c.first; second = c.second; longer = c.longer } (omega arith))
from_start (Even ∷ xs) fs gs a b (suc j) n s c le =
    let goes = by_even xs a b s in
    join a b (a + a % 2) (b + b % 2) _ _ goes.0 (from_start xs fs gs (a + a % 2) (b + b % 2) j n goes.1 record { first = c.first; second = c.second; longer = c.longer } (omega arith))
from_start (At m ∷ xs) fs gs a b (suc j) n s c le = absurd (cc n)
from_start (Branch kind target ∷ xs) fs gs a b (suc j) n s c le =
    let p = choices_after kind target xs fs gs c in
    let goes = by_branch kind target (head_form fs) (head_form gs) xs a b p.head s in
    join a b (a + size kind (head_form fs)) (b + size kind (head_form gs)) _ _ goes.0
    (from_start xs (drop 1 fs) (drop 1 gs) (a + size kind (head_form fs)) (b + size kind (head_form gs)) j n goes.1
    record { first = p.first_length; second = p.second_length; longer = p.later } (omega arith))

-- from any place to any later one
pub between : (xs : List Piece) (fs gs : List Form) (a b i j : ℕ) → no_at xs ≡ true → Steady xs a b → Choices xs fs gs → i ≤ j → j ≤ length xs →
    Wider (place xs fs a i) (place xs gs b i) (place xs fs a j) (place xs gs b j)
unfolding places no_at start_forms
between [] fs gs a b zero j n s c lt le = from_start [] fs gs a b j n s c le
between [] fs gs a b (suc i) j n s c lt le = absurd (omega arith)
between (x ∷ xs) fs gs a b zero j n s c lt le = from_start (x ∷ xs) fs gs a b j n s c le
between (x ∷ xs) fs gs a b (suc i) zero n s c lt le = absurd (omega arith)
between (Bytes m ∷ xs) fs gs a b (suc i) (suc j) n s c lt le =
    let goes = by_bytes m xs a b s in
    between xs fs gs (a + m) (b + m) i j n goes.1 record { first = c.first; second = c.second; longer = c.longer } (omega arith) (omega arith)
between (Even ∷ xs) fs gs a b (suc i) (suc j) n s c lt le =
    let goes = by_even xs a b s in
    between xs fs gs (a + a % 2) (b + b % 2) i j n goes.1 record { first = c.first; second = c.second; longer = c.longer } (omega arith) (omega arith)
between (At m ∷ xs) fs gs a b (suc i) (suc j) n s c lt le = absurd (cc n)
between (Branch kind target ∷ xs) fs gs a b (suc i) (suc j) n s c lt le =
    let p = choices_after kind target xs fs gs c in
    let goes = by_branch kind target (head_form fs) (head_form gs) xs a b p.head s in
    between xs (drop 1 fs) (drop 1 gs) (a + size kind (head_form fs)) (b + size kind (head_form gs)) i j n goes.1
    record { first = p.first_length; second = p.second_length; longer = p.later } (omega arith) (omega arith)

-- a whole list whose first piece may be an At
pub gaps : (pieces : List Piece) (fs gs : List Form) (i j : ℕ) → IsPlain pieces → Choices pieces fs gs → i ≤ j → j ≤ length pieces →
    Wider (place pieces fs 0 i) (place pieces gs 0 i) (place pieces fs 0 j) (place pieces gs 0 j)
unfolding places no_at no_even evens_lead start_forms
gaps [] fs gs i j plain c lt le = between [] fs gs 0 0 i j refl (inl refl) c lt le
gaps (Bytes m ∷ xs) fs gs i j plain c lt le = between (Bytes m ∷ xs) fs gs 0 0 i j plain.at_first (inr (refl, plain.evens_first)) c lt le
gaps (Even ∷ xs) fs gs i j plain c lt le = between (Even ∷ xs) fs gs 0 0 i j plain.at_first (inr (refl, plain.evens_first)) c lt le
gaps (Branch kind target ∷ xs) fs gs i j plain c lt le = between (Branch kind target ∷ xs) fs gs 0 0 i j plain.at_first (inr (refl, plain.evens_first)) c lt le
gaps (At m ∷ xs) fs gs zero zero plain c lt le = record { first = omega arith; second = omega arith; grows = omega arith }
gaps (At m ∷ xs) fs gs zero (suc j) plain c lt le =
    join 0 0 m m _ _ record { first = omega arith; second = omega arith; grows = omega arith }
    (from_start xs fs gs m m j plain.at_first (inr (refl, plain.evens_first)) record { first = c.first; second = c.second; longer = c.longer } (omega arith))
gaps (At m ∷ xs) fs gs (suc i) zero plain c lt le = absurd (omega arith)
gaps (At m ∷ xs) fs gs (suc i) (suc j) plain c lt le =
    between xs fs gs m m i j plain.at_first (inr (refl, plain.evens_first)) record { first = c.first; second = c.second; longer = c.longer } (omega arith) (omega arith)

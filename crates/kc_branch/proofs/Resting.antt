-- After a pass each piece reaches, or spans one that the pass changed.
use Rattle.std.proofs.Common.{◌≡◌, ℕ, zero, suc, Bool, true, false, ◌+◌, ◌-◌, ◌<◌, ◌≤◌, leb, cond, min, max, List, [], ◌∷◌, length, Some, None, ℤ, pos, ◌+ℤ◌, ◌-ℤ◌, refl, ap, sym, ◌∙◌, subst, arith}
use Rattle.std.specs.Prelude.{slice_index}
use Rattle.std.proofs.lemmas.Bool.Decides.{nat_tests}
use Rattle.std.proofs.lemmas.Int.{ints}
use Rattle.kc_branch.specs.declared.piece.Piece.{Piece}
use Rattle.kc_branch.specs.declared.piece.Piece.TheVariants.{Bytes, Even, At, Branch}
use Rattle.kc_branch.specs.declared.piece.BranchKind.{BranchKind}
use Rattle.kc_branch.specs.declared.piece.BranchKind.TheVariants.{Jump, Call, Conditional, BitTest}
use Rattle.kc_branch.specs.declared.piece.Form.{Form}
use Rattle.kc_branch.specs.declared.piece.Form.TheVariants.{First, Second, Third}
use Rattle.kc_branch.specs.Forms.{spans, longer, reaches, piece_reaches, next_form}
use Rattle.kc_branch.specs.Layouts.{any_in, all_changed, stands, raised_from, is_free, far_end, Changes, Rests}
use Rattle.kc_branch.proofs.Reaching.{third_reaches}
use Rattle.kc_branch.proofs.Spanning.{narrower}
use Rattle.kc_branch.proofs.Changing.{between, head_at_rest, tail_at_rest}

-- ---- one piece

pub free_spans : (kind : BranchKind) (f : Form) (d : ℤ) → is_free kind f ≡ true → spans kind f d ≡ true
free_spans Jump First d h = absurd (cc h)
free_spans Jump Second d h = refl
free_spans Jump Third d h = refl
free_spans Call First d h = absurd (cc h)
free_spans Call Second d h = refl
free_spans Call Third d h = refl
free_spans Conditional First d h = absurd (cc h)
free_spans Conditional Second d h = absurd (cc h)
free_spans Conditional Third d h = refl
free_spans BitTest First d h = absurd (cc h)
free_spans BitTest Second d h = absurd (cc h)
free_spans BitTest Third d h = refl

kept_form : (r : Bool) (f : Form) → (f ≡ Third → r ≡ true) → cond r f (longer f) ≡ f → r ≡ true
kept_form true f h e = refl
kept_form false First h e = absurd (cc e)
kept_form false Second h e = absurd (cc e)
kept_form false Third h e = h refl

-- a piece that keeps its form in a pass reached
kept_reaches : (at : List ℕ) (x : Piece) (f : Form) (end : ℕ) → next_form at x f end ≡ f → piece_reaches at x f end ≡ true
kept_reaches at (Bytes m) f end e = refl
kept_reaches at Even f end e = refl
kept_reaches at (At m) f end e = refl
kept_reaches at (Branch kind target) f end e =
    kept_form (reaches at kind target f end) f (λ t. ap (λ g. reaches at kind target g end) t ∙ third_reaches at kind target end) e

-- two layouts of n pieces, in each of which a place past the last is the place 0
pub record Two (n : ℕ) (ss : List Bool) (at to : List ℕ) : Type 0 where
  pub gaps : (i j : ℕ) → i ≤ j → j ≤ n → any_in ss i j ≡ false → slice_index at i + slice_index to j ≡ slice_index at j + slice_index to i
  pub past : (t : ℕ) → n < t → slice_index at t ≡ slice_index at 0
  pub past_too : (t : ℕ) → n < t → slice_index to t ≡ slice_index to 0

-- a target that counts as the place g
abbrev counts_as : ℕ → ℕ → ℕ
counts_as n t = cond (leb t n) t 0

counts : (n t : ℕ) (at : List ℕ) → ((i : ℕ) → n < i → slice_index at i ≡ slice_index at 0) → slice_index at t ≡ slice_index at (counts_as n t)
counts n t at past =
    elim (leb t n) as (λ b. leb t n ≡ b → slice_index at t ≡ slice_index at (cond b t 0)) [
      | true ↦ λ h. refl
      | false ↦ λ h. past t (grind (arith, nat_tests))
    ] refl

counts_bound : (n t : ℕ) → counts_as n t ≤ n
counts_bound n t =
    elim (leb t n) as (λ b. leb t n ≡ b → cond b t 0 ≤ n) [
      | true ↦ λ h. grind (arith, nat_tests)
      | false ↦ λ h. omega arith
    ] refl

same_gap : (n : ℕ) (ss : List Bool) (at to : List ℕ) (k g : ℕ) → Two n ss at to → k + 1 ≤ n → g ≤ n → any_in ss (min k g) (max (k + 1) g) ≡ false →
    slice_index at (k + 1) + slice_index to g ≡ slice_index at g + slice_index to (k + 1)
same_gap n ss at to k g two le gn quiet =
    elim (leb (k + 1) g) as (λ b. leb (k + 1) g ≡ b → slice_index at (k + 1) + slice_index to g ≡ slice_index at g + slice_index to (k + 1)) [
      | true ↦ λ h. let lt : k + 1 ≤ g = grind (arith, nat_tests) in
          two.gaps (k + 1) g lt gn (narrower ss (min k g) (max (k + 1) g) (k + 1) g (omega arith) (omega arith) quiet)
      | false ↦ λ h. let lt : g ≤ k + 1 = grind (arith, nat_tests) in
          let e = two.gaps g (k + 1) lt le (narrower ss (min k g) (max (k + 1) g) g (k + 1) (let l : g < k + 1 = grind (arith, nat_tests) in omega arith) (omega arith) quiet) in
          omega (arith, e)
    ] refl

same_away : (p q r s : ℕ) (d : ℤ) → p + s ≡ r + q → (pos r +ℤ d) -ℤ pos p ≡ (pos s +ℤ d) -ℤ pos q
same_away p q r s d e = omega (arith, ints)

active : (n : ℕ) (ss : List Bool) (at to : List ℕ) (kind : BranchKind) (f : Form) (t : ℕ) (d : ℤ) (k : ℕ) → Two n ss at to → k + 1 ≤ n →
    any_in ss (min k (counts_as n t)) (max (k + 1) (counts_as n t)) ≡ false →
    spans kind f ((pos (slice_index at t) +ℤ d) -ℤ pos (slice_index at (k + 1))) ≡ true → spans kind f ((pos (slice_index to t) +ℤ d) -ℤ pos (slice_index to (k + 1))) ≡ true
active n ss at to kind f t d k two le quiet h =
    let g = counts_as n t in
    let gap = same_gap n ss at to k g two le (counts_bound n t) quiet in
    let first = counts n t at two.past in
    let second = counts n t to two.past_too in
    let e : slice_index at (k + 1) + slice_index to t ≡ slice_index at t + slice_index to (k + 1) = omega (arith, gap, first, second) in
    sym (ap (λ a. spans kind f a) (same_away (slice_index at (k + 1)) (slice_index to (k + 1)) (slice_index at t) (slice_index to t) d e)) ∙ h

-- a branch that reached reaches still, where no piece that it spans was changed
reaches_still : (n : ℕ) (ss : List Bool) (at to : List ℕ) (x : Piece) (f : Form) (k : ℕ) → Two n ss at to → k + 1 ≤ n →
    any_in ss (min k (far_end n x f k)) (max (k + 1) (far_end n x f k)) ≡ false → piece_reaches at x f (slice_index at (k + 1)) ≡ true → piece_reaches to x f (slice_index to (k + 1)) ≡ true
reaches_still n ss at to (Bytes m) f k two le quiet h = refl
reaches_still n ss at to Even f k two le quiet h = refl
reaches_still n ss at to (At m) f k two le quiet h = refl
reaches_still n ss at to (Branch kind None) f k two le quiet h = h
reaches_still n ss at to (Branch kind (Some target)) f k two le quiet h =
    elim (is_free kind f) as (λ b. is_free kind f ≡ b → any_in ss (min k (cond b k (counts_as n target.0))) (max (k + 1) (cond b k (counts_as n target.0))) ≡ false
    → spans kind f ((pos (slice_index to target.0) +ℤ target.1) -ℤ pos (slice_index to (k + 1))) ≡ true) [
      | true ↦ λ e _. free_spans kind f ((pos (slice_index to target.0) +ℤ target.1) -ℤ pos (slice_index to (k + 1))) e
      | false ↦ λ e q. active n ss at to kind f target.0 target.1 k two le q h
    ] refl quiet

-- ---- all pieces

-- what is at rest in a list is at rest from its k-th piece on
abbrev Later : List Bool → List Bool → ℕ → Type 0
Later all ss k = (i j : ℕ) → any_in all i j ≡ false → any_in ss (i - k) (j - k) ≡ false

later_on : (all : List Bool) (s : Bool) (ss : List Bool) (k : ℕ) → Later all (s ∷ ss) k → Later all ss (k + 1)
later_on all s ss k late i j h = tail_at_rest s ss (i - k) (j - k) (i - (k + 1)) (j - (k + 1)) (omega arith) (omega arith) (late i j h)

first_rests : (all : List Bool) (s : Bool) (ss : List Bool) (k i j : ℕ) → Later all (s ∷ ss) k → i ≤ k → k < j → any_in all i j ≡ false → s ≡ false
first_rests all s ss k i j late le lt h = head_at_rest s ss 0 (narrower (s ∷ ss) (i - k) (j - k) 0 (suc 0) (omega arith) (omega arith) (late i j h))

rests_behind : (n : ℕ) (all : List Bool) (at to : List ℕ) (xs : List (Piece × Form)) (ss : List Bool) (a b k : ℕ) → Two n all at to → Later all ss k → k + length xs ≡ n →
    Changes xs (raised_from at xs k) ss a b → Rests n all to (raised_from at xs k) k
rests_behind n all at to [] ss a b k two late e h = tt
rests_behind n all at to (x ∷ xs) [] a b k two late e h = absurd h
rests_behind n all at to (x ∷ xs) (s ∷ ss) a b k two late e h =
    let next = next_form at x.0 x.1 (slice_index at (k + 1)) in
    let P : Form → Type 0 = λ f. any_in all (min k (far_end n x.0 f k)) (max (k + 1) (far_end n x.0 f k)) ≡ false → piece_reaches to x.0 f (slice_index to (k + 1)) ≡ true in (
      λ quiet.
          let rest = first_rests all s ss k (min k (far_end n x.0 next k)) (max (k + 1) (far_end n x.0 next k)) late (omega arith) (omega arith) quiet in
          let same : next ≡ x.1 = ap (λ (y : Piece × Form). y.1) (h.0 rest).0 in
          subst P (sym same) (λ q. reaches_still n all at to x.0 x.1 k two (omega arith) q (kept_reaches at x.0 x.1 (slice_index at (k + 1)) same)) quiet,
      rests_behind n all at to xs ss _ _ (k + 1) two (later_on all s ss k late) (omega arith) h.1,
    )

past_last : (xs : List (Piece × Form)) (a i : ℕ) → length xs < i → slice_index (stands xs a) i ≡ 0
past_last [] a zero lt = absurd (omega arith)
past_last [] a (suc i) lt = refl
past_last (x ∷ xs) a zero lt = absurd (omega arith)
past_last (x ∷ xs) a (suc i) lt = past_last xs _ i (omega arith)

first_place : (xs : List (Piece × Form)) (a : ℕ) → slice_index (stands xs a) 0 ≡ a
first_place [] a = refl
first_place (x ∷ xs) a = refl

raised_length : (at : List ℕ) (xs : List (Piece × Form)) (k : ℕ) → length (raised_from at xs k) ≡ length xs
raised_length at [] k = refl
raised_length at (x ∷ xs) k = omega (arith, raised_length at xs (k + 1))

-- a pass and what it changes
pub pass_rests : (xs ys : List (Piece × Form)) (ss : List Bool) (n : ℕ) → n ≡ length xs → ys ≡ raised_from (stands xs 0) xs 0 → Changes xs ys ss 0 0 → Rests n ss (stands ys 0) ys 0
pass_rests xs ys ss n is e h =
    let at = stands xs 0 in
    let next = raised_from at xs 0 in
    let P : List (Piece × Form) → Type 0 = λ zs. Changes xs zs ss 0 0 in
    let Q : List (Piece × Form) → Type 0 = λ zs. Rests n ss (stands zs 0) zs 0 in
    let changes : Changes xs next ss 0 0 = subst P e h in
    let two : Two n ss at (stands next 0) = record {
      gaps = λ i j lt le q. between xs next ss 0 0 i j changes lt (omega arith) q;
      past = λ t lt. past_last xs 0 t (omega arith) ∙ sym (first_place xs 0);
      past_too = λ t lt. past_last next 0 t (omega (arith, raised_length at xs 0)) ∙ sym (first_place next 0);
    } in
    let late : Later ss ss 0 = λ i j q. narrower ss i j (i - 0) (j - 0) (omega arith) (omega arith) q in
    subst Q (sym e) (rests_behind n ss at (stands next 0) xs ss 0 0 0 two late (omega arith) changes)

-- ---- the first pass

all_in : (xs : List Piece) (k : ℕ) → k < length xs → any_in (all_changed xs) k (k + 1) ≡ false → ⊥
all_in [] k lt h = omega arith
all_in (x ∷ xs) zero lt h = cc (head_at_rest true (all_changed xs) 0 (narrower (true ∷ all_changed xs) zero (zero + 1) 0 (suc 0) (omega arith) (omega arith) h))
all_in (x ∷ xs) (suc k) lt h = all_in xs k (omega arith) (tail_at_rest true (all_changed xs) (suc k) (suc k + 1) k (k + 1) (omega arith) (omega arith) h)

rests_first : (pieces : List Piece) (n : ℕ) (at : List ℕ) (xs : List (Piece × Form)) (k : ℕ) → k + length xs ≤ length pieces → Rests n (all_changed pieces) at xs k
rests_first pieces n at [] k le = tt
rests_first pieces n at (x ∷ xs) k le = (
  λ quiet. absurd (all_in pieces k (omega arith)
      (narrower (all_changed pieces) (min k (far_end n x.0 x.1 k)) (max (k + 1) (far_end n x.0 x.1 k)) k (k + 1) (omega arith) (omega arith) quiet)),
  rests_first pieces n at xs (k + 1) (omega arith),
)

pub begun_rests : (pieces : List Piece) (n : ℕ) (xs : List (Piece × Form)) (ss : List Bool) → length xs ≡ length pieces → ss ≡ all_changed pieces → Rests n ss (stands xs 0) xs 0
begun_rests pieces n xs ss e same =
    let P : List Bool → Type 0 = λ us. Rests n us (stands xs 0) xs 0 in
    subst P (sym same) (rests_first pieces n (stands xs 0) xs 0 (omega arith))

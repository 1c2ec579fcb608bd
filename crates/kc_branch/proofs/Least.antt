-- No branch has a longer form than in any choice in which each branch reaches.
use Rattle.std.proofs.Common.{◌≡◌, ℕ, zero, suc, Bool, true, false, ◌+◌, ◌*◌, ◌≤◌, ◌&&◌, cond, leb, ◌⊎◌, inl, inr, List, [], ◌∷◌, length, Option, Some, None, ℤ, pos, negsuc, ◌+ℤ◌, ◌-ℤ◌, ◌≤ℤ◌, drop, refl, sym, ap, ◌∙◌, subst, arith}
use Rattle.std.specs.Prelude.{slice_index, int_le}
use Rattle.std.specs.Ordering.{int_eq}
use Rattle.std.proofs.lemmas.Bool.{and_parts}
use Rattle.std.proofs.lemmas.Bool.Decides.{nat_tests, Decides-int_eq}
use Rattle.std.proofs.lemmas.Int.{ints}
use Rattle.std.specs.Fn.{iterate}
use Rattle.kc_branch.specs.declared.piece.Piece.{Piece}
use Rattle.kc_branch.specs.declared.piece.Piece.TheVariants.{Bytes, Even, At, Branch}
use Rattle.kc_branch.specs.declared.piece.BranchKind.{BranchKind}
use Rattle.kc_branch.specs.declared.piece.BranchKind.TheVariants.{Jump, Call, Conditional, BitTest}
use Rattle.kc_branch.specs.declared.piece.Form.{Form}
use Rattle.kc_branch.specs.declared.piece.Form.TheVariants.{First, Second, Third}
use Rattle.kc_branch.specs.Forms.{spans, is_third, reaches, longer, next_form, head_form, raised, pass, places, start_forms, forms}
use Rattle.kc_branch.specs.Laws.{all_reach, settles, rank, no_longer, places_to, is_place_to, IsPlain, IsLeast}
use Rattle.kc_branch.proofs.Reaching.{raised_length}
use Rattle.kc_branch.proofs.Gaps.{Wider, Choices, parts, gaps}

-- ---- distances

le_of : (a b : ℤ) → int_le a b ≡ true → a ≤ℤ b
le_of a b h = grind (arith, ints)

of_le : (a b : ℤ) → a ≤ℤ b → int_le a b ≡ true
of_le a b h = grind (arith, ints)

both : (a b : Bool) → a ≡ true → b ≡ true → (a && b) ≡ true
both true true h k = refl
both true false h k = k
both false true h k = h
both false false h k = h

-- from place `end` to a target at place `to`, by a distance that is 0
abbrev away : ℤ → ℕ → ℕ → ℤ
away d to end = (pos to +ℤ d) -ℤ pos end

-- the target is on the same side in both layouts, and in the first it is not farther
abbrev Nearer : ℕ → ℕ → ℕ → ℕ → Type 0
Nearer to end other_to other_end = Wider end other_end to other_to ⊎ Wider to other_to end other_end

abbrev is_within : ℕ → ℕ → ℤ → Bool
is_within low high away = int_le (negsuc low) away && int_le away (pos high)

below : (d : ℤ) (low t e u f : ℕ) → d ≡ pos 0 → Nearer t e u f → negsuc low ≤ℤ away d u f → negsuc low ≤ℤ away d t e
below d low t e u f z (inl w) h = omega (arith, ints)
below d low t e u f z (inr w) h = omega (arith, ints)

above : (d : ℤ) (high t e u f : ℕ) → d ≡ pos 0 → Nearer t e u f → away d u f ≤ℤ pos high → away d t e ≤ℤ pos high
above d high t e u f z (inl w) h = omega (arith, ints)
above d high t e u f z (inr w) h = omega (arith, ints)

within : (d : ℤ) (low high t e u f : ℕ) → d ≡ pos 0 → Nearer t e u f → is_within low high (away d u f) ≡ true → is_within low high (away d t e) ≡ true
within d low high t e u f z near h =
    let p = and_parts (int_le (negsuc low) (away d u f)) (int_le (away d u f) (pos high)) h in
    both (int_le (negsuc low) (away d t e)) (int_le (away d t e) (pos high))
    (of_le (negsuc low) (away d t e) (below d low t e u f z near (le_of (negsuc low) (away d u f) p.0)))
    (of_le (away d t e) (pos high) (above d high t e u f z near (le_of (away d u f) (pos high) p.1)))

-- the same form reaches where the target is not farther
spans_near : (kind : BranchKind) (g : Form) (d : ℤ) (t e u f : ℕ) → d ≡ pos 0 → Nearer t e u f → spans kind g (away d u f) ≡ true → spans kind g (away d t e) ≡ true
spans_near Jump First d t e u f z near h = within d 1023 1023 t e u f z near h
spans_near Jump Second d t e u f z near h = refl
spans_near Jump Third d t e u f z near h = refl
spans_near Call First d t e u f z near h = within d 1023 1023 t e u f z near h
spans_near Call Second d t e u f z near h = refl
spans_near Call Third d t e u f z near h = refl
spans_near Conditional First d t e u f z near h = within d 127 127 t e u f z near h
spans_near Conditional Second d t e u f z near h = within d 1023 1023 t e u f z near h
spans_near Conditional Third d t e u f z near h = refl
spans_near BitTest First d t e u f z near h = within d 127 127 t e u f z near h
spans_near BitTest Second d t e u f z near h = within d 1023 1023 t e u f z near h
spans_near BitTest Third d t e u f z near h = refl

-- ---- one branch

-- a form that is not longer, and takes the next form unless the test holds; where both are the same form the test holds
next_no_longer : (r : Bool) (f g : Form) → leb (rank f) (rank g) ≡ true → (f ≡ g → r ≡ true) → leb (rank (cond r f (longer f))) (rank g) ≡ true
next_no_longer true f g le same = le
next_no_longer false First First le same = absurd (cc (same refl))
next_no_longer false First Second le same = refl
next_no_longer false First Third le same = refl
next_no_longer false Second First le same = absurd (cc le)
next_no_longer false Second Second le same = absurd (cc (same refl))
next_no_longer false Second Third le same = refl
next_no_longer false Third First le same = absurd (cc le)
next_no_longer false Third Second le same = absurd (cc le)
next_no_longer false Third Third le same = absurd (cc (same refl))

third : (f g : Form) → is_third g ≡ true → leb (rank f) (rank g) ≡ true
third f First h = absurd (cc h)
third f Second h = absurd (cc h)
third First Third h = refl
third Second Third h = refl
third Third Third h = refl

-- the places of two layouts
abbrev Gaps : List ℕ → List ℕ → ℕ → Type 0
Gaps at bt n = (i j : ℕ) → i ≤ j → j ≤ n → Wider (slice_index at i) (slice_index bt i) (slice_index at j) (slice_index bt j)

le_true : (a b : ℕ) → leb a b ≡ true → a ≤ b
le_true a b h = grind (arith, nat_tests)

nearer : (at bt : List ℕ) (n t e : ℕ) → Gaps at bt n → t ≤ n → e ≤ n → Nearer (slice_index at t) (slice_index at e) (slice_index bt t) (slice_index bt e)
nearer at bt n t e gap tn en =
    elim (leb e t) as (λ b. leb e t ≡ b → Nearer (slice_index at t) (slice_index at e) (slice_index bt t) (slice_index bt e)) [
      | true ↦ λ h. inl (gap e t (le_true e t h) tn)
      | false ↦ λ h. inr (gap t e (grind (arith, nat_tests)) en)
    ] refl

zero_of : (d : ℤ) → int_eq d (pos 0) ≡ true → d ≡ pos 0
zero_of d h = grind (arith, Decides-int_eq)

branch_least : (at bt : List ℕ) (n : ℕ) (kind : BranchKind) (target : Option (ℕ × ℤ)) (f g : Form) (end : ℕ) → Gaps at bt n → end ≤ n
    → is_place_to n (Branch kind target) ≡ true → leb (rank f) (rank g) ≡ true → reaches bt kind target g (slice_index bt end) ≡ true
    → leb (rank (next_form at (Branch kind target) f (slice_index at end))) (rank g) ≡ true
branch_least at bt n kind None f g end gap en stands le reach = third (next_form at (Branch kind None) f (slice_index at end)) g reach
branch_least at bt n kind (Some target) f g end gap en stands le reach =
    let p = and_parts (leb target.0 n) (int_eq target.1 (pos 0)) stands in
    let near = nearer at bt n target.0 end gap (le_true target.0 n p.0) en in
    next_no_longer (reaches at kind (Some target) f (slice_index at end)) f g le
    (λ e. ap (λ h. reaches at kind (Some target) h (slice_index at end)) e
    ∙ spans_near kind g target.1 (slice_index at target.0) (slice_index at end) (slice_index bt target.0) (slice_index bt end) (zero_of target.1 p.1) near reach)

-- ---- all branches

begins_with : (f : Form) (fs gs : List Form) (n : ℕ) → length gs ≡ suc n → leb (rank f) (rank (head_form gs)) ≡ true → no_longer fs (drop 1 gs) ≡ true → no_longer (f ∷ fs) gs ≡ true
unfolding no_longer
begins_with f fs [] n e le h = absurd (omega arith)
begins_with f fs (g ∷ gs) n e le h = both (leb (rank f) (rank g)) (no_longer fs gs) le h

raised_least : (at bt : List ℕ) (n : ℕ) (xs : List Piece) (fs gs : List Form) (k : ℕ) → Gaps at bt n → Choices xs fs gs → k + length xs ≤ n
    → places_to n xs ≡ true → all_reach bt xs gs k ≡ true → no_longer (raised at xs fs k) gs ≡ true
unfolding raised all_reach start_forms places_to no_longer
raised_least at bt n [] fs gs k gap c le stands reach = refl
raised_least at bt n (Bytes m ∷ xs) fs gs k gap c le stands reach = raised_least at bt n xs fs gs (k + 1) gap record { first = c.first; second = c.second; longer = c.longer } (omega arith) stands reach
raised_least at bt n (Even ∷ xs) fs gs k gap c le stands reach = raised_least at bt n xs fs gs (k + 1) gap record { first = c.first; second = c.second; longer = c.longer } (omega arith) stands reach
raised_least at bt n (At m ∷ xs) fs gs k gap c le stands reach = raised_least at bt n xs fs gs (k + 1) gap record { first = c.first; second = c.second; longer = c.longer } (omega arith) stands reach
raised_least at bt n (Branch kind target ∷ xs) fs gs k gap c le stands reach =
    let p = parts fs gs (length (start_forms xs)) c.longer c.first c.second in
    let s = and_parts (is_place_to n (Branch kind target)) (places_to n xs) stands in
    let r = and_parts (reaches bt kind target (head_form gs) (slice_index bt (k + 1))) (all_reach bt xs (drop 1 gs) (k + 1)) reach in
    begins_with (next_form at (Branch kind target) (head_form fs) (slice_index at (k + 1))) (raised at xs (drop 1 fs) (k + 1)) gs (length (start_forms xs)) c.second
    (branch_least at bt n kind target (head_form fs) (head_form gs) (k + 1) gap (omega arith) s.0 p.head r.0)
    (raised_least at bt n xs (drop 1 fs) (drop 1 gs) (k + 1) gap record { first = p.first_length; second = p.second_length; longer = p.later } (omega arith) s.1 r.1)

pass_least : (pieces : List Piece) (fs gs : List Form) → IsPlain pieces → Choices pieces fs gs → settles pieces gs ≡ true → Choices pieces (pass pieces fs) gs
pass_least pieces fs gs plain c reach = record {
  first = raised_length (places pieces fs 0) pieces fs 0;
  second = c.second;
  longer = raised_least (places pieces fs 0) (places pieces gs 0) (length pieces) pieces fs gs 0 (λ i j lt le. gaps pieces fs gs i j plain c lt le) c (omega arith) plain.to_places reach;
}

relaxation_least : (pieces : List Piece) (n : ℕ) (fs gs : List Form) → IsPlain pieces → Choices pieces fs gs → settles pieces gs ≡ true → no_longer (iterate (pass pieces) n fs) gs ≡ true
relaxation_least pieces zero fs gs plain c reach = c.longer
relaxation_least pieces (suc n) fs gs plain c reach = relaxation_least pieces n (pass pieces fs) gs plain (pass_least pieces fs gs plain c reach) reach

first_least : (g : Form) → leb (rank First) (rank g) ≡ true
first_least First = refl
first_least Second = refl
first_least Third = refl

start_least : (bt : List ℕ) (xs : List Piece) (gs : List Form) (k : ℕ) → length gs ≡ length (start_forms xs) → all_reach bt xs gs k ≡ true → no_longer (start_forms xs) gs ≡ true
unfolding start_forms all_reach no_longer
start_least bt [] gs k e reach = refl
start_least bt (Bytes m ∷ xs) gs k e reach = start_least bt xs gs (k + 1) e reach
start_least bt (Even ∷ xs) gs k e reach = start_least bt xs gs (k + 1) e reach
start_least bt (At m ∷ xs) gs k e reach = start_least bt xs gs (k + 1) e reach
start_least bt (Branch kind target ∷ xs) [] k e reach = absurd (omega arith)
start_least bt (Branch kind None ∷ xs) (g ∷ gs) k e reach =
    let r = and_parts (is_third g) (all_reach bt xs gs (k + 1)) reach in
    both (leb (rank Third) (rank g)) (no_longer (start_forms xs) gs) (third Third g r.0) (start_least bt xs gs (k + 1) (omega arith) r.1)
start_least bt (Branch kind (Some target) ∷ xs) (g ∷ gs) k e reach =
    let r = and_parts (reaches bt kind (Some target) g (slice_index bt (k + 1))) (all_reach bt xs gs (k + 1)) reach in
    both (leb (rank First) (rank g)) (no_longer (start_forms xs) gs) (first_least g) (start_least bt xs gs (k + 1) (omega arith) r.1)

pub forms_least : (pieces : List Piece) → IsLeast pieces (forms pieces)
unfolding forms
forms_least pieces plain gs e reach =
    relaxation_least pieces (2 * length (start_forms pieces)) (start_forms pieces) gs plain
    record { first = refl; second = e; longer = start_least (places pieces gs 0) pieces gs 0 e reach } reach

pub least_along : (pieces : List Piece) (fs : List Form) → fs ≡ forms pieces → IsLeast pieces fs
least_along pieces fs same = let P : List Form → Type 0 = λ gs. IsLeast pieces gs in subst P (sym same) (forms_least pieces)

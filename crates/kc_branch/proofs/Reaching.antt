-- After twice as many passes as there are branches each branch reaches: a pass that changes something raises a rank.
use Rattle.std.proofs.Common.{◌≡◌, ℕ, zero, suc, Bool, true, false, ◌+◌, ◌*◌, ◌≤◌, ◌&&◌, cond, ◌⊎◌, inl, inr, List, [], ◌∷◌, length, Option, Some, None, ℤ, drop, refl, ap, ◌∙◌, arith}
use Rattle.std.specs.Prelude.{slice_index}
use Rattle.std.proofs.lemmas.Bool.{and_parts}
use Rattle.std.specs.Fn.{iterate}
use Rattle.kc_branch.specs.declared.piece.Piece.{Piece}
use Rattle.kc_branch.specs.declared.piece.Piece.TheVariants.{Bytes, Even, At, Branch}
use Rattle.kc_branch.specs.declared.piece.BranchKind.{BranchKind}
use Rattle.kc_branch.specs.declared.piece.BranchKind.TheVariants.{Jump, Call, Conditional, BitTest}
use Rattle.kc_branch.specs.declared.piece.Form.{Form}
use Rattle.kc_branch.specs.declared.piece.Form.TheVariants.{First, Second, Third}
use Rattle.kc_branch.specs.Forms.{reaches, longer, next_form, raised, pass, places, start_forms, forms}
use Rattle.kc_branch.specs.Laws.{all_reach, settles, rank}
use Rattle.kc_branch.proofs.Iterated.{still}

abbrev count : List Piece → ℕ
count xs = length (start_forms xs)

pub count_branch : (kind : BranchKind) (target : Option (ℕ × ℤ)) (xs : List Piece) → count (Branch kind target ∷ xs) ≡ suc (count xs)
unfolding start_forms
count_branch kind target xs = refl

-- ---- one branch

pub third_reaches : (at : List ℕ) (kind : BranchKind) (target : Option (ℕ × ℤ)) (end : ℕ) → reaches at kind target Third end ≡ true
third_reaches at Jump None end = refl
third_reaches at Jump (Some t) end = refl
third_reaches at Call None end = refl
third_reaches at Call (Some t) end = refl
third_reaches at Conditional None end = refl
third_reaches at Conditional (Some t) end = refl
third_reaches at BitTest None end = refl
third_reaches at BitTest (Some t) end = refl

-- how much a pass raises the rank of a form that reaches, or does not
abbrev step : Bool → ℕ
step true = 0
step false = 1

abbrev stepped : Bool → Form → Form
stepped r f = cond r f (longer f)

third_or_more : (r : Bool) (f : Form) → (f ≡ Third → r ≡ true) → rank (stepped r f) ≡ rank f + step r
third_or_more true First h = refl
third_or_more true Second h = refl
third_or_more true Third h = refl
third_or_more false First h = refl
third_or_more false Second h = refl
third_or_more false Third h = absurd (cc (h refl))

rank_next : (at : List ℕ) (kind : BranchKind) (target : Option (ℕ × ℤ)) (f : Form) (end : ℕ) →
    rank (next_form at (Branch kind target) f end) ≡ rank f + step (reaches at kind target f end)
rank_next at kind target f end =
    third_or_more (reaches at kind target f end) f (λ e. ap (λ g. reaches at kind target g end) e ∙ third_reaches at kind target end)

rank_bound : (f : Form) → rank f ≤ 2
rank_bound First = omega arith
rank_bound Second = omega arith
rank_bound Third = omega arith

-- ---- all branches

abbrev total : List Form → ℕ
total [] = 0
total (f ∷ fs) = rank f + total fs

total_bound : (fs : List Form) → total fs ≤ 2 * length fs
total_bound [] = omega arith
total_bound (f ∷ fs) = omega (arith, rank_bound f, total_bound fs)

pub raised_length : (at : List ℕ) (xs : List Piece) (fs : List Form) (k : ℕ) → length (raised at xs fs k) ≡ count xs
unfolding raised start_forms
raised_length at [] fs k = refl
raised_length at (Bytes n ∷ xs) fs k = raised_length at xs fs (k + 1)
raised_length at (Even ∷ xs) fs k = raised_length at xs fs (k + 1)
raised_length at (At place ∷ xs) fs k = raised_length at xs fs (k + 1)
raised_length at (Branch kind target ∷ xs) fs k = ap suc (raised_length at xs (drop 1 fs) (k + 1))

-- what a list with a form for each branch begins with, at a branch
abbrev Begins : List Form → ℕ → Type 0
Begins fs n = (f : Form) × (rest : List Form) × (fs ≡ f ∷ rest) × (length rest ≡ n)

begins : (fs : List Form) (n : ℕ) → length fs ≡ suc n → Begins fs n
begins [] n e = absurd (omega arith)
begins (f ∷ rest) n e = (f, rest, refl, omega arith)

one_more : (b r : Bool) → step (b && r) ≤ step b + step r
one_more true true = omega arith
one_more true false = omega arith
one_more false true = omega arith
one_more false false = omega arith

-- a pass raises the ranks by one or more, unless each branch reaches
pub raised_total : (at : List ℕ) (xs : List Piece) (fs : List Form) (k : ℕ) → length fs ≡ count xs →
    total fs + step (all_reach at xs fs k) ≤ total (raised at xs fs k)
unfolding raised all_reach start_forms
raised_total at [] [] k e = omega arith
raised_total at [] (f ∷ fs) k e = absurd (omega arith)
raised_total at (Bytes n ∷ xs) fs k e = raised_total at xs fs (k + 1) e
raised_total at (Even ∷ xs) fs k e = raised_total at xs fs (k + 1) e
raised_total at (At place ∷ xs) fs k e = raised_total at xs fs (k + 1) e
raised_total at (Branch kind target ∷ xs) [] k e = absurd (omega arith)
raised_total at (Branch kind target ∷ xs) (f ∷ fs) k e =
    let rest = raised_total at xs fs (k + 1) (omega arith) in
    let here = rank_next at kind target f (slice_index at (k + 1)) in
    let sum = one_more (reaches at kind target f (slice_index at (k + 1))) (all_reach at xs fs (k + 1)) in
    omega arith

-- where each branch reaches, a pass changes nothing
pub raised_same : (at : List ℕ) (xs : List Piece) (fs : List Form) (k : ℕ) → length fs ≡ count xs → all_reach at xs fs k ≡ true → raised at xs fs k ≡ fs
unfolding raised all_reach start_forms
raised_same at [] [] k e h = refl
raised_same at [] (f ∷ fs) k e h = absurd (omega arith)
raised_same at (Bytes n ∷ xs) fs k e h = raised_same at xs fs (k + 1) e h
raised_same at (Even ∷ xs) fs k e h = raised_same at xs fs (k + 1) e h
raised_same at (At place ∷ xs) fs k e h = raised_same at xs fs (k + 1) e h
raised_same at (Branch kind target ∷ xs) [] k e h = absurd (omega arith)
raised_same at (Branch kind target ∷ xs) (f ∷ fs) k e h =
    let both = and_parts (reaches at kind target f (slice_index at (k + 1))) (all_reach at xs fs (k + 1)) h in
    rw both.0 (ap (λ gs. f ∷ gs) (raised_same at xs fs (k + 1) (omega arith) both.1))

-- ---- passes

settled_or : (pieces : List Piece) (fs : List Form) → length fs ≡ count pieces →
    (settles pieces fs ≡ true) ⊎ (total fs + 1 ≤ total (pass pieces fs))
settled_or pieces fs e =
    elim (settles pieces fs) as (λ b. settles pieces fs ≡ b → (settles pieces fs ≡ true) ⊎ (total fs + 1 ≤ total (pass pieces fs))) [
      | true ↦ λ h. inl h
      | false ↦ λ h. inr (let more = raised_total (places pieces fs 0) pieces fs 0 e in rw h at more)
    ] refl

pub settled_in : (pieces : List Piece) (n : ℕ) (fs : List Form) → length fs ≡ count pieces → 2 * length fs ≤ total fs + n → settles pieces (iterate (pass pieces) n fs) ≡ true
settled_in pieces zero fs e h =
    elim (settled_or pieces fs e) as (λ _. settles pieces fs ≡ true) [
      | inl s ↦ s
      | inr more ↦ absurd (let b = total_bound (pass pieces fs) in let l = raised_length (places pieces fs 0) pieces fs 0 in omega arith)
    ]
settled_in pieces (suc n) fs e h =
    elim (settled_or pieces fs e) as (λ _. settles pieces (iterate (pass pieces) n (pass pieces fs)) ≡ true) [
      | inl s ↦
          let same : pass pieces fs ≡ fs = raised_same (places pieces fs 0) pieces fs 0 e s in
          let stays : iterate (pass pieces) n (pass pieces fs) ≡ fs = ap (iterate (pass pieces) n) same ∙ still (pass pieces) fs n same in
          ap (settles pieces) stays ∙ s
      | inr more ↦
          let l : length (pass pieces fs) ≡ count pieces = raised_length (places pieces fs 0) pieces fs 0 in
          settled_in pieces n (pass pieces fs) l (omega arith)
    ]

pub forms_settle : (pieces : List Piece) → settles pieces (forms pieces) ≡ true
unfolding forms
forms_settle pieces = settled_in pieces (2 * count pieces) (start_forms pieces) refl (omega arith)

pub along : (pieces : List Piece) (fs : List Form) → fs ≡ forms pieces → settles pieces fs ≡ true
along pieces fs e = ap (settles pieces) e ∙ forms_settle pieces

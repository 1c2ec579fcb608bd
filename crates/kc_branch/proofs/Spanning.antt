-- Which pieces a stretch spans.
use Rattle.std.proofs.Common.{◌≡◌, ℕ, zero, suc, Bool, true, false, ◌+◌, ◌-◌, ◌<◌, ◌≤◌, ◌&&◌, ◌||◌, ◌==◌, min, max, List, [], ◌∷◌, ◌++◌, length, refl, ap, ◌∙◌, subst, arith}
use Rattle.std.proofs.lemmas.Bool.Decides.{nat_tests}
use Rattle.std.specs.Prelude.{nat_lt, slice_index}
use Rattle.kc_branch.specs.declared.piece.Piece.{Piece}
use Rattle.kc_branch.specs.declared.piece.Form.{Form}
use Rattle.kc_branch.specs.declared.layout.Layout.{Layout}
use Rattle.kc_branch.specs.declared.layout.Layout.TheVariants.{Leaf, Fork'}
use Rattle.kc_branch.specs.Forms.{next_form}
use Rattle.kc_branch.specs.Layouts.{any_changed, any_in, far_end, Covers, Rests, AreAtRest, items, raised_from}

-- ---- pieces that were changed

or_assoc : (a b c d : Bool) → d ≡ (b || c) → (a || d) ≡ ((a || b) || c)
or_assoc true b c d e = refl
or_assoc false b c d e = e

pub later : (a b : Bool) → (a || b) ≡ false → b ≡ false
later true b h = absurd (cc h)
later false b h = h

or_later : (a b : Bool) → a ≡ false → b ≡ false → (a || b) ≡ false
or_later a b h k = cc

-- whether the first one stands in a range
abbrev pub is_first : ℕ → ℕ → Bool
is_first i j = (i == 0) && nat_lt 0 j

not_first : (i j : ℕ) → 0 < i → is_first i j ≡ false
not_first i j lt = elim (i == 0) as (λ b. (i == 0) ≡ b → (b && nat_lt 0 j) ≡ false) [
  | true ↦ λ e. absurd (let z : i ≡ 0 = grind arith in omega arith)
  | false ↦ λ e. refl
] refl

pub any_in-append : (ss us : List Bool) (i j : ℕ) → any_in (ss ++ us) i j ≡ (any_in ss i j || any_in us (i - length ss) (j - length ss))
any_in-append [] us i j =
    let a : i ≡ i - 0 = omega arith in
    let b : j ≡ j - 0 = omega arith in
    ap (λ n. any_in us n j) a ∙ ap (λ n. any_in us (i - 0) n) b
any_in-append (s ∷ ss) us i j =
    let a : i - 1 - length ss ≡ i - length (s ∷ ss) = omega arith in
    let b : j - 1 - length ss ≡ j - length (s ∷ ss) = omega arith in
    or_assoc (s && (i == 0) && nat_lt 0 j) (any_in ss (i - 1) (j - 1)) (any_in us (i - length (s ∷ ss)) (j - length (s ∷ ss))) (any_in (ss ++ us) (i - 1) (j - 1))
    (any_in-append ss us (i - 1) (j - 1) ∙ (ap (λ n. any_in ss (i - 1) (j - 1) || any_in us n (j - 1 - length ss)) a ∙ ap (λ n. any_in ss (i - 1) (j - 1) || any_in us (i - length (s ∷ ss)) n) b))

pub none_in : (ss : List Bool) (i j : ℕ) → any_changed ss ≡ false → any_in ss i j ≡ false
none_in [] i j h = refl
none_in (true ∷ ss) i j h = absurd (cc h)
none_in (false ∷ ss) i j h = none_in ss (i - 1) (j - 1) h

pub none_past : (ss : List Bool) (i j : ℕ) → length ss ≤ i → any_in ss i j ≡ false
none_past [] i j le = refl
none_past (s ∷ ss) zero j le = absurd (omega arith)
none_past (true ∷ ss) (suc i) j le = or_later (is_first (suc i) j) _ (not_first (suc i) j (omega arith)) (none_past ss (suc i - 1) (j - 1) (omega arith))
none_past (false ∷ ss) (suc i) j le = none_past ss (suc i - 1) (j - 1) (omega arith)

pub none_to_zero : (ss : List Bool) (i j : ℕ) → j ≡ 0 → any_in ss i j ≡ false
none_to_zero [] i j e = refl
none_to_zero (s ∷ ss) i (suc j) e = absurd (omega arith)
none_to_zero (true ∷ ss) zero zero e = none_to_zero ss (0 - 1) (0 - 1) (omega arith)
none_to_zero (true ∷ ss) (suc i) zero e = or_later (is_first (suc i) 0) _ (not_first (suc i) 0 (omega arith)) (none_to_zero ss (suc i - 1) (0 - 1) (omega arith))
none_to_zero (false ∷ ss) i zero e = none_to_zero ss (i - 1) (0 - 1) (omega arith)

pub earlier : (a b : Bool) → (a || b) ≡ false → a ≡ false
earlier true b h = absurd (cc h)
earlier false b h = refl

pub first_is : (j : ℕ) → is_first 0 (suc j) ≡ false → ⊥
first_is j h = let le : suc j ≤ 0 = grind (arith, nat_tests) in omega arith

-- a narrower range
pub narrower : (ss : List Bool) (i j k l : ℕ) → i ≤ k → l ≤ j → any_in ss i j ≡ false → any_in ss k l ≡ false
narrower [] i j k l a b h = refl
narrower (false ∷ ss) i j k l a b h = narrower ss (i - 1) (j - 1) (k - 1) (l - 1) (omega arith) (omega arith) h
narrower (true ∷ ss) i j (suc k) l a b h =
    or_later (is_first (suc k) l) _ (not_first (suc k) l (omega arith)) (narrower ss (i - 1) (j - 1) (suc k - 1) (l - 1) (omega arith) (omega arith) (later (is_first i j) _ h))
narrower (true ∷ ss) zero zero zero zero a b h = narrower ss (0 - 1) (0 - 1) (0 - 1) (0 - 1) (omega arith) (omega arith) h
narrower (true ∷ ss) zero (suc j) zero l a b h = absurd (first_is j (earlier (is_first 0 (suc j)) (any_in ss (0 - 1) (suc j - 1)) h))
narrower (true ∷ ss) (suc i) j zero l a b h = absurd (omega arith)
narrower (true ∷ ss) zero zero zero (suc l) a b h = absurd (omega arith)

-- ---- what a list of pieces spans

le_over : {a b c : ℕ} → a ≤ b → b ≤ c → a ≤ c
le_over p q = omega (arith, p, q)

pub covers-wider : (n from to i j : ℕ) (xs : List (Piece × Form)) (k : ℕ) → i ≤ from → to ≤ j → Covers n from to xs k → Covers n i j xs k
covers-wider n from to i j [] k a b h = tt
covers-wider n from to i j (x ∷ xs) k a b h = (le_over a h.0, le_over h.1 b, covers-wider n from to i j xs (k + 1) a b h.2)

pub covers-append : (n from to : ℕ) (xs ys : List (Piece × Form)) (k m : ℕ) → m ≡ k + length xs → Covers n from to xs k → Covers n from to ys m → Covers n from to (xs ++ ys) k
covers-append n from to [] ys k m e h g = let P : ℕ → Type 0 = λ i. Covers n from to ys i in subst P (omega arith) g
covers-append n from to (x ∷ xs) ys k m e h g = (h.0, h.1, covers-append n from to xs ys (k + 1) m (omega arith) h.2 g)

rests-before : (n : ℕ) (ss : List Bool) (at : List ℕ) (xs ys : List (Piece × Form)) (k : ℕ) → Rests n ss at (xs ++ ys) k → Rests n ss at xs k
rests-before n ss at [] ys k h = tt
rests-before n ss at (x ∷ xs) ys k h = (h.0, rests-before n ss at xs ys (k + 1) h.1)

rests-behind : (n : ℕ) (ss : List Bool) (at : List ℕ) (xs ys : List (Piece × Form)) (k m : ℕ) → m ≡ k + length xs → Rests n ss at (xs ++ ys) k → Rests n ss at ys m
rests-behind n ss at [] ys k m e h = let P : ℕ → Type 0 = λ i. Rests n ss at ys i in subst P (omega arith) h
rests-behind n ss at (x ∷ xs) ys k m e h = rests-behind n ss at xs ys (k + 1) m (omega arith) h.1

rests-append : (n : ℕ) (ss : List Bool) (at : List ℕ) (xs ys : List (Piece × Form)) (k m : ℕ) → m ≡ k + length xs → Rests n ss at xs k → Rests n ss at ys m → Rests n ss at (xs ++ ys) k
rests-append n ss at [] ys k m e h g = let P : ℕ → Type 0 = λ i. Rests n ss at ys i in subst P (omega arith) g
rests-append n ss at (x ∷ xs) ys k m e h g = (h.0, rests-append n ss at xs ys (k + 1) m (omega arith) h.1 g)

pub rests_in_list : (n : ℕ) (ss : List Bool) (at : List ℕ) (t : Layout) (k : ℕ) → AreAtRest n ss at t k → Rests n ss at (items t) k
rests_in_list n ss at (Leaf x f s) k h = h
rests_in_list n ss at (Fork' p left s q right) k h =
    rests-append n ss at (items left) (items right) k (k + length (items left)) refl (rests_in_list n ss at left k h.0) (rests_in_list n ss at right (k + length (items left)) h.1)

pub rests_in_tree : (n : ℕ) (ss : List Bool) (at : List ℕ) (t : Layout) (k : ℕ) → Rests n ss at (items t) k → AreAtRest n ss at t k
rests_in_tree n ss at (Leaf x f s) k h = h
rests_in_tree n ss at (Fork' p left s q right) k h = (
  rests_in_tree n ss at left k (rests-before n ss at (items left) (items right) k h),
  rests_in_tree n ss at right (k + length (items left)) (rests-behind n ss at (items left) (items right) k (k + length (items left)) refl h),
)

-- where no piece that the list spans was changed, a pass leaves it as it is
pub left_alone : (n from to : ℕ) (ss : List Bool) (at : List ℕ) (xs : List (Piece × Form)) (k : ℕ) → Covers n from to xs k → Rests n ss at xs k → any_in ss from to ≡ false →
    raised_from at xs k ≡ xs
left_alone n from to ss at [] k c r h = refl
left_alone n from to ss at (x ∷ xs) k c r h =
    let here = r.0 (narrower ss from to (min k (far_end n x.0 x.1 k)) (max (k + 1) (far_end n x.0 x.1 k)) c.0 c.1 h) in
    rw here (ap (λ (t : List (Piece × Form)). x ∷ t) (left_alone n from to ss at xs (k + 1) c.2 r.1 h))

pub raised-append : (at : List ℕ) (xs ys : List (Piece × Form)) (k m : ℕ) → m ≡ k + length xs → raised_from at (xs ++ ys) k ≡ raised_from at xs k ++ raised_from at ys m
raised-append at [] ys k m e = ap (λ i. raised_from at ys i) (omega arith)
raised-append at (x ∷ xs) ys k m e =
    ap (λ (t : List (Piece × Form)). (x.0, next_form at x.0 x.1 (slice_index at (k + 1))) ∷ t) (raised-append at xs ys (k + 1) m (omega arith))

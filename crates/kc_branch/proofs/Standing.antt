-- Where pieces stand: a list behind another, and a list that begins elsewhere.
use Rattle.std.proofs.Common.{◌≡◌, ℕ, zero, suc, Bool, true, false, ◌+◌, ◌-◌, ◌%◌, ◌<◌, ◌||◌, ◌==◌, cond, List, [], ◌∷◌, ◌++◌, length, refl, ap, sym, ◌∙◌, arith}
use Rattle.std.specs.Prelude.{slice_index}
use Rattle.std.proofs.lemmas.List.{length-append}
use Rattle.kc_branch.specs.declared.piece.Piece.{Piece}
use Rattle.kc_branch.specs.declared.piece.Piece.TheVariants.{Bytes, Even, At, Branch}
use Rattle.kc_branch.specs.declared.piece.Form.{Form}
use Rattle.kc_branch.specs.declared.stretch.Stretch.{Stretch}
use Rattle.kc_branch.specs.declared.layout.Layout.{Layout}
use Rattle.kc_branch.specs.declared.layout.Layout.TheVariants.{Leaf, Fork'}
use Rattle.kc_branch.specs.Forms.{size, end_of}
use Rattle.kc_branch.specs.Layouts.{end_place, stands, has_at, has_even, any_changed, end_from, joined, IsShort, IsKnown, IsLaid, items, changed, known}

-- ---- a list behind another

pub end_place-append : (xs ys : List (Piece × Form)) (a : ℕ) → end_place (xs ++ ys) a ≡ end_place ys (end_place xs a)
end_place-append [] ys a = refl
end_place-append (x ∷ xs) ys a = end_place-append xs ys (end_of x.0 x.1 a)

pub stands-before : (xs ys : List (Piece × Form)) (a i : ℕ) → i < length xs → slice_index (stands (xs ++ ys) a) i ≡ slice_index (stands xs a) i
stands-before [] ys a i lt = absurd (omega arith)
stands-before (x ∷ xs) ys a zero lt = refl
stands-before (x ∷ xs) ys a (suc i) lt = stands-before xs ys (end_of x.0 x.1 a) i (omega arith)

pub stands-behind : (xs ys : List (Piece × Form)) (a i j : ℕ) → i ≡ length xs + j → slice_index (stands (xs ++ ys) a) i ≡ slice_index (stands ys (end_place xs a)) j
stands-behind [] ys a i j e = ap (λ n. slice_index (stands ys a) n) (omega arith)
stands-behind (x ∷ xs) ys a zero j e = absurd (omega arith)
stands-behind (x ∷ xs) ys a (suc i) j e = stands-behind xs ys (end_of x.0 x.1 a) i j (omega arith)

pub has_at-append : (xs ys : List (Piece × Form)) → has_at (xs ++ ys) ≡ (has_at xs || has_at ys)
has_at-append [] ys = refl
has_at-append ((Bytes m, f) ∷ xs) ys = has_at-append xs ys
has_at-append ((Even, f) ∷ xs) ys = has_at-append xs ys
has_at-append ((At m, f) ∷ xs) ys = refl
has_at-append ((Branch kind target, f) ∷ xs) ys = has_at-append xs ys

pub has_even-append : (xs ys : List (Piece × Form)) → has_even (xs ++ ys) ≡ (has_even xs || has_even ys)
has_even-append [] ys = refl
has_even-append ((Bytes m, f) ∷ xs) ys = has_even-append xs ys
has_even-append ((Even, f) ∷ xs) ys = refl
has_even-append ((At m, f) ∷ xs) ys = has_even-append xs ys
has_even-append ((Branch kind target, f) ∷ xs) ys = has_even-append xs ys

pub any_changed-append : (ss us : List Bool) → any_changed (ss ++ us) ≡ (any_changed ss || any_changed us)
any_changed-append [] us = refl
any_changed-append (true ∷ ss) us = refl
any_changed-append (false ∷ ss) us = any_changed-append ss us

-- ---- a list that begins elsewhere

pub fixed : (xs : List (Piece × Form)) (a b : ℕ) → has_at xs ≡ true → end_place xs a ≡ end_place xs b
fixed [] a b h = absurd (cc h)
fixed ((Bytes m, f) ∷ xs) a b h = fixed xs (a + m) (b + m) h
fixed ((Even, f) ∷ xs) a b h = fixed xs (a + a % 2) (b + b % 2) h
fixed ((At m, f) ∷ xs) a b h = refl
fixed ((Branch kind target, f) ∷ xs) a b h = fixed xs (a + size kind f) (b + size kind f) h

pub slid : (xs : List (Piece × Form)) (a b : ℕ) → has_at xs ≡ false → a % 2 ≡ b % 2 → end_place xs a + b ≡ end_place xs b + a
slid [] a b h e = omega arith
slid ((Bytes m, f) ∷ xs) a b h e = omega (arith, slid xs (a + m) (b + m) h (omega arith))
slid ((Even, f) ∷ xs) a b h e = omega (arith, slid xs (a + a % 2) (b + b % 2) h (omega arith))
slid ((At m, f) ∷ xs) a b h e = absurd (cc h)
slid ((Branch kind target, f) ∷ xs) a b h e = omega (arith, slid xs (a + size kind f) (b + size kind f) h (omega arith))

-- ---- what is known of a stretch

pub of_laid : (t : Layout) → IsLaid t → IsKnown (known t) (items t) (changed t)
of_laid (Leaf x f s) h = h
of_laid (Fork' p left s q right) h = h.0

cond_true : {A : Type 0} (b : Bool) (x y : A) → b ≡ true → cond b x y ≡ x
cond_true true x y h = refl
cond_true false x y h = absurd (cc h)

cond_false : {A : Type 0} (b : Bool) (x y : A) → b ≡ false → cond b x y ≡ y
cond_false true x y h = absurd (cc h)
cond_false false x y h = refl

by_parity : (xs : List (Piece × Form)) (here even odd : ℕ) → has_at xs ≡ false → even ≡ end_place xs 0 → odd ≡ end_place xs 1 →
    cond (here % 2 == 0) (here + even) ((here - 1) + odd) ≡ end_place xs here
by_parity xs here even odd h e o =
    elim (here % 2 == 0) as (λ b. (here % 2 == 0) ≡ b → cond b (here + even) ((here - 1) + odd) ≡ end_place xs here) [
      | true ↦ λ t. let p : here % 2 ≡ 0 = grind arith in omega (arith, slid xs here 0 h (omega arith))
      | false ↦ λ t. let p : here % 2 ≡ 1 = grind arith in omega (arith, slid xs here 1 h (omega arith))
    ] refl

pub ends : (s : Stretch) (xs : List (Piece × Form)) (ss : List Bool) (here : ℕ) → IsKnown s xs ss → end_from s here ≡ end_place xs here
ends s xs ss here k =
    elim (s.has_at) as (λ b. s.has_at ≡ b → end_from s here ≡ end_place xs here) [
      | true ↦ λ h. cond_true s.has_at _ _ h ∙ (k.even_end ∙ fixed xs 0 here (sym k.has_at ∙ h))
      | false ↦ λ h. cond_false s.has_at _ _ h ∙ by_parity xs here s.even_end s.odd_end (sym k.has_at ∙ h) k.even_end k.odd_end
    ] refl

or_both : (a b c d : Bool) → a ≡ c → b ≡ d → (a || b) ≡ (c || d)
or_both a b c d e f = cc

pub known-joined : (s t : Stretch) (xs ys : List (Piece × Form)) (ss us : List Bool) → IsKnown s xs ss → IsKnown t ys us → IsShort (joined s t) →
    IsKnown (joined s t) (xs ++ ys) (ss ++ us)
known-joined s t xs ys ss us k l short = record {
  count = omega (arith, length-append xs ys, k.count, l.count);
  even_end = ends t ys us s.even_end l ∙ (ap (λ n. end_place ys n) k.even_end ∙ sym (end_place-append xs ys 0));
  odd_end = ends t ys us s.odd_end l ∙ (ap (λ n. end_place ys n) k.odd_end ∙ sym (end_place-append xs ys 1));
  short = short;
  has_at = or_both s.has_at t.has_at (has_at xs) (has_at ys) k.has_at l.has_at ∙ sym (has_at-append xs ys);
  has_even = or_both s.has_even t.has_even (has_even xs) (has_even ys) k.has_even l.has_even ∙ sym (has_even-append xs ys);
  changed = or_both s.changed t.changed (any_changed ss) (any_changed us) k.changed l.changed ∙ sym (any_changed-append ss us);
}

-- ---- a fork

pub count_of : (t u : Layout) (s : Stretch) → s ≡ known u → u ≡ t → IsLaid t → s.count ≡ length (items t)
count_of t u s e same laid =
    let is : s ≡ known t = e ∙ ap known same in
    ap (λ (k : Stretch). k.count) is ∙ (of_laid t laid).count

pub place_from : (left right : Layout) (s : Stretch) (here middle i j : ℕ) → s ≡ known left → IsLaid left → middle ≡ end_from s here → i ≡ s.count + j →
    slice_index (stands (items right) middle) j ≡ slice_index (stands (items left ++ items right) here) i
place_from left right s here middle i j is laid e at =
    let k = of_laid left laid in
    let count : s.count ≡ length (items left) = ap (λ (k : Stretch). k.count) is ∙ k.count in
    let from : middle ≡ end_place (items left) here = e ∙ (ap (λ (k : Stretch). end_from k here) is ∙ ends (known left) (items left) (changed left) here k) in
    ap (λ n. slice_index (stands (items right) n) j) from ∙ sym (stands-behind (items left) (items right) here i j (omega arith))

pub changed_length : (t : Layout) → length (changed t) ≡ length (items t)
changed_length (Leaf x f s) = refl
changed_length (Fork' p left s q right) =
    omega (arith, length-append (changed left) (changed right), length-append (items left) (items right), changed_length left, changed_length right)

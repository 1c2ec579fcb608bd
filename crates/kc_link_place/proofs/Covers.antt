-- Counting the pieces that have an address, and the gaps that the counts leave.
use Rattle.std.proofs.Common.{◌≡◌, ℕ, zero, suc, ◌+◌, ◌<◌, ◌≤◌, Bool, true, false, List, [], ◌∷◌, length, get_or, set, take, add-one, get_or-set_same, get_or-set_other, ◌≢◌, refl, sym, ap, ◌∙◌, subst, arith, inl, inr}
use Rattle.std.specs.Prelude.{Some, None, ◌⊎◌, ◌++◌, ◌&&◌, ◌||◌, ◌==◌, not, nat_lt, nat_le, if◌then◌else◌}
use Rattle.std.proofs.lemmas.Bool.Decides.{nat_tests}
use Rattle.std.proofs.lemmas.List.{get_or_append_left, length-append}
use Rattle.std.proofs.Math.Seq.{get_or-append_seam}
use Rattle.kc_link_place.specs.declared.gaps.Gap.{Gap}
use Rattle.kc_link_place.specs.declared.pieces.Stand.{Stand}
use Rattle.kc_link_place.specs.Stands.{has, is_taken, how_many, least}
use Rattle.kc_link_place.specs.Gaps.{in_gaps, Sorted, Represents, Counts, begins_at, ends_at, open_at, EndBefore, is_free}

-- ---- counts

begins-le : (ss : List Stand) (a : ℕ) → begins_at ss a ≤ length ss
begins-le [] a = omega arith
begins-le (s ∷ ss) a = by (s.at == a) (begins-le ss a)
  where
    by : (t : Bool) → begins_at ss a ≤ length ss → (if t then 1 + begins_at ss a else begins_at ss a) ≤ suc (length ss)
    by true h = omega arith
    by false h = omega arith

pub begins_le : (ss : List Stand) (a : ℕ) → begins_at ss a ≤ length ss
begins_le = begins-le

pub ends_le : (ss : List Stand) (a : ℕ) → ends_at ss a ≤ length ss
ends_le [] a = omega arith
ends_le (s ∷ ss) a = by (s.at + s.piece.size == a) (ends_le ss a)
  where
    by : (t : Bool) → ends_at ss a ≤ length ss → (if t then 1 + ends_at ss a else ends_at ss a) ≤ suc (length ss)
    by true h = omega arith
    by false h = omega arith

pub open_none : (ss : List Stand) → open_at ss 0 ≡ 0
open_none [] = refl
open_none (s ∷ ss) = by (nat_lt s.at 0 && nat_le 0 (s.at + s.piece.size)) refl (open_none ss)
  where
    by : (t : Bool) → (nat_lt s.at 0 && nat_le 0 (s.at + s.piece.size)) ≡ t → open_at ss 0 ≡ 0 → (if t then 1 + open_at ss 0 else open_at ss 0) ≡ 0
    by true e h = absurd (grind (arith, nat_tests, e))
    by false e h = h

pub open_next : (ss : List Stand) (a : ℕ) → open_at ss (a + 1) ≡ how_many ss a
open_next [] a = refl
open_next (s ∷ ss) a =
    let t : (nat_lt s.at (a + 1) && nat_le (a + 1) (s.at + s.piece.size)) ≡ has s a = grind (arith, nat_tests) in
    rw (t, open_next ss a) refl

-- those that have the address before, and those that begin at it, are those that have it and those that end before it
pub balance : (ss : List Stand) (a : ℕ) → open_at ss a + begins_at ss a ≡ how_many ss a + ends_at ss a
balance [] a = refl
balance (s ∷ ss) a = by (nat_lt s.at a && nat_le a (s.at + s.piece.size)) (s.at == a) (has s a) (s.at + s.piece.size == a) refl refl refl refl (balance ss a)
  where
    by : (t u v w : Bool) → (nat_lt s.at a && nat_le a (s.at + s.piece.size)) ≡ t → (s.at == a) ≡ u → has s a ≡ v → (s.at + s.piece.size == a) ≡ w →
        open_at ss a + begins_at ss a ≡ how_many ss a + ends_at ss a →
        (if t then 1 + open_at ss a else open_at ss a) + (if u then 1 + begins_at ss a else begins_at ss a) ≡ (if v then 1 + how_many ss a else how_many ss a) + (if w then 1 + ends_at ss a else ends_at ss a)
    by true true v w e f g h k = absurd (grind (arith, nat_tests, e, f))
    by true false true true e f g h k = absurd (grind (arith, nat_tests, g, h))
    by true false true false e f g h k = omega (arith, k)
    by true false false true e f g h k = omega (arith, k)
    by true false false false e f g h k = absurd (grind (arith, nat_tests, e, g, h))
    by false true true true e f g h k = absurd (grind (arith, nat_tests, g, h))
    by false true true false e f g h k = omega (arith, k)
    by false true false true e f g h k = omega (arith, k)
    by false true false false e f g h k = absurd (grind (arith, nat_tests, f, g, h))
    by false false true w e f g h k = absurd (grind (arith, nat_tests, e, f, g))
    by false false false true e f g h k = absurd (grind (arith, nat_tests, e, f, h))
    by false false false false e f g h k = omega (arith, k)

pub sums_le : (ss : List Stand) (a : ℕ) → how_many ss a + ends_at ss a ≤ length ss
sums_le [] a = omega arith
sums_le (s ∷ ss) a = by (has s a) (s.at + s.piece.size == a) refl refl (sums_le ss a)
  where
    by : (v w : Bool) → has s a ≡ v → (s.at + s.piece.size == a) ≡ w → how_many ss a + ends_at ss a ≤ length ss →
        (if v then 1 + how_many ss a else how_many ss a) + (if w then 1 + ends_at ss a else ends_at ss a) ≤ suc (length ss)
    by true true g h k = absurd (grind (arith, nat_tests, g, h))
    by true false g h k = omega (arith, k)
    by false true g h k = omega (arith, k)
    by false false g h k = omega (arith, k)

pub free_is : (ss : List Stand) (a : ℕ) → (how_many ss a == 0) ≡ not (is_taken ss a)
free_is [] a = refl
free_is (s ∷ ss) a = by (has s a) (free_is ss a)
  where
    by : (t : Bool) → (how_many ss a == 0) ≡ not (is_taken ss a) → ((if t then 1 + how_many ss a else how_many ss a) == 0) ≡ not (t || is_taken ss a)
    by true h = grind (arith, nat_tests)
    by false h = h

-- ---- the first address that two have

pub least_more : (p : ℕ → Bool) (n a m b : ℕ) → n ≡ m + 1 → b ≡ a + 1 → p a ≡ false → least p n a ≡ least p m b
unfolding least
least_more p zero a m b e f h = absurd (omega (arith, e))
least_more p (suc n) a m b e f h =
    let g : n ≡ m = omega (arith, e) in
    rw (h, f, g) refl

pub least_here : (p : ℕ → Bool) (n a : ℕ) → 0 < n → p a ≡ true → least p n a ≡ Some a
unfolding least
least_here p zero a l h = absurd (omega (arith, l))
least_here p (suc n) a l h = rw h refl

pub least_end : (p : ℕ → Bool) (n a : ℕ) → n ≡ 0 → least p n a ≡ None
unfolding least
least_end p zero a e = refl
least_end p (suc n) a e = absurd (omega (arith, e))

-- ---- the gaps

in-append : (gs : List Gap) (g : Gap) (b : ℕ) → in_gaps (gs ++ g ∷ []) b ≡ (in_gaps gs b || (nat_le g.from b && nat_lt b g.end))
in-append [] g b = last (nat_le g.from b && nat_lt b g.end)
  where
    last : (t : Bool) → (t || false) ≡ t
    last true = refl
    last false = refl
in-append (x ∷ gs) g b = ap (λ (t : Bool). (nat_le x.from b && nat_lt b x.end) || t) (in-append gs g b) ∙ moved (nat_le x.from b && nat_lt b x.end) (in_gaps gs b) (nat_le g.from b && nat_lt b g.end)
  where
    moved : (x y z : Bool) → (x || (y || z)) ≡ ((x || y) || z)
    moved true y z = refl
    moved false y z = refl

sorted-append : (gs : List Gap) (low : ℕ) (g : Gap) → Sorted low gs → EndBefore g.from gs → low ≤ g.from → g.from ≤ g.end → Sorted low (gs ++ g ∷ [])
sorted-append [] low g s e l m = (l, (m, tt))
sorted-append (x ∷ gs) low g s e l m = (s.0, (s.1.0, sorted-append gs (x.end + 1) g s.1.1 e.1 (omega (arith, e.0)) m))

end-append : (gs : List Gap) (a b : ℕ) (g : Gap) → EndBefore a gs → a ≤ b → g.end < b → EndBefore b (gs ++ g ∷ [])
end-append [] a b g e l m = (m, tt)
end-append (x ∷ gs) a b g e l m = (omega (arith, e.0, l), end-append gs a b g e.1 l m)

pub end_later : (gs : List Gap) (a b : ℕ) → EndBefore a gs → a ≤ b → EndBefore b gs
end_later [] a b e l = tt
end_later (x ∷ gs) a b e l = (omega (arith, e.0, l), end_later gs a b e.1 l)

-- what the gaps are below a start, with all free from there up to an address
pub record Below (cover : List ℕ) (gs : List Gap) (start a : ℕ) : Type 0 where
  pub le : start ≤ a
  pub sorted : Sorted 0 gs
  pub ends : EndBefore start gs
  pub free : (b : ℕ) → in_gaps gs b ≡ (nat_lt b start && is_free cover b)
  pub rest : (b : ℕ) → start ≤ b → b < a → is_free cover b ≡ true

pub below_none : (cover : List ℕ) → Below cover [] 0 0
below_none cover = record { le = omega arith; sorted = tt; ends = tt; free = λ b. grind (arith, nat_tests); rest = λ b l m. absurd (omega (arith, l, m)) }

free-push : (f : Bool) (b start a : ℕ) → start ≤ a → (start ≤ b → b < a → f ≡ true) → (b ≡ a → f ≡ false) → ((nat_lt b start && f) || (nat_le start b && nat_lt b a)) ≡ (nat_lt b (a + 1) && f)
free-push true b start a l h k = by (nat_lt b (a + 1)) refl
  where
    not_a : b ≡ a → ⊥
    not_a e = cc (k e)

    by : (t : Bool) → nat_lt b (a + 1) ≡ t → ((nat_lt b start && true) || (nat_le start b && nat_lt b a)) ≡ (t && true)
    by true e = let u : b < a + 1 = grind (arith, nat_tests, e) in let v : b < a = omega (arith, u, not_a) in grind (arith, nat_tests, v)
    by false e = let u : a + 1 ≤ b = grind (arith, nat_tests, e) in grind (arith, nat_tests, u, l)
free-push false b start a l h k = by (nat_le start b) (nat_lt b a) refl refl
  where
    by : (t u : Bool) → nat_le start b ≡ t → nat_lt b a ≡ u → ((nat_lt b start && false) || (t && u)) ≡ (nat_lt b (a + 1) && false)
    by true true e g = absurd (cc (h (grind (arith, nat_tests, e)) (grind (arith, nat_tests, g))))
    by true false e g = grind (arith, nat_tests)
    by false u e g = grind (arith, nat_tests)

free-stay : (f : Bool) (b a : ℕ) → (b ≡ a → f ≡ false) → (nat_lt b a && f) ≡ (nat_lt b (a + 1) && f)
free-stay false b a k = grind (arith, nat_tests)
free-stay true b a k = by (nat_lt b (a + 1)) refl
  where
    not_a : b ≡ a → ⊥
    not_a e = cc (k e)

    by : (t : Bool) → nat_lt b (a + 1) ≡ t → (nat_lt b a && true) ≡ (t && true)
    by true e = let u : b < a + 1 = grind (arith, nat_tests, e) in let v : b < a = omega (arith, u, not_a) in grind (arith, nat_tests, v)
    by false e = let u : a + 1 ≤ b = grind (arith, nat_tests, e) in grind (arith, nat_tests, u)

-- a taken address closes a gap
pub below_push : (cover : List ℕ) (gs : List Gap) (g : Gap) (start a : ℕ) → Below cover gs start a → g.from ≡ start → g.end ≡ a → is_free cover a ≡ false → Below cover (gs ++ g ∷ []) (a + 1) (a + 1)
below_push cover gs g start a r ef ee taken = record {
  le = omega arith;
  sorted = sorted-append gs 0 g r.sorted (subst (λ (n : ℕ). EndBefore n gs) (sym ef) r.ends) (omega arith) (omega (arith, ef, ee, r.le));
  ends = end-append gs start (a + 1) g r.ends (omega (arith, r.le)) (omega (arith, ee));
  free = λ b. in-append gs g b ∙ rw (r.free b, ef, ee) (free-push (is_free cover b) b start a r.le (r.rest b) (λ e. subst (λ (n : ℕ). is_free cover n ≡ false) (sym e) taken));
  rest = λ b l m. absurd (omega (arith, l, m));
}

-- a taken address behind another one
pub below_stay : (cover : List ℕ) (gs : List Gap) (start a : ℕ) → Below cover gs start a → a ≤ start → is_free cover a ≡ false → Below cover gs (a + 1) (a + 1)
below_stay cover gs start a r le taken =
    let e : start ≡ a = omega (arith, r.le, le) in
    record {
      le = omega arith;
      sorted = r.sorted;
      ends = end_later gs start (a + 1) r.ends (omega (arith, r.le));
      free = λ b. r.free b ∙ rw e (free-stay (is_free cover b) b a (λ q. subst (λ (n : ℕ). is_free cover n ≡ false) (sym q) taken));
      rest = λ b l m. absurd (omega (arith, l, m));
    }

-- a free address
pub below_more : (cover : List ℕ) (gs : List Gap) (start a : ℕ) → Below cover gs start a → is_free cover a ≡ true → Below cover gs start (a + 1)
below_more cover gs start a r free = record {
  le = omega (arith, r.le);
  sorted = r.sorted;
  ends = r.ends;
  free = r.free;
  rest = λ b l m. by b l (same-or-below b a (omega (arith, m)));
}
  where
    same-or-below : (m n : ℕ) → m ≤ n → (m ≡ n) ⊎ (m < n)
    same-or-below zero zero h = inl refl
    same-or-below zero (suc n) h = inr (omega arith)
    same-or-below (suc m) zero h = absurd (omega arith)
    same-or-below (suc m) (suc n) h = elim (same-or-below m n (omega arith)) [ inl e ↦ inl (omega (arith, e)) | inr e ↦ inr (omega (arith, e)) ]

    by : (b : ℕ) → start ≤ b → (b ≡ a) ⊎ (b < a) → is_free cover b ≡ true
    by b l (inl e) = subst (λ (n : ℕ). is_free cover n ≡ true) (sym e) free
    by b l (inr h) = r.rest b l h

free-counts : (cover : List ℕ) (ss : List Stand) (b : ℕ) → Counts cover ss → (nat_lt b 65536 && is_free cover b) ≡ (nat_lt b 65536 && not (is_taken ss b))
free-counts cover ss b c = by (nat_lt b 65536) refl
  where
    by : (t : Bool) → nat_lt b 65536 ≡ t → (t && is_free cover b) ≡ (t && not (is_taken ss b))
    by false e = refl
    by true e = let l : b < 65536 = grind (arith, nat_tests, e) in rw (c.1 b l) (free_is ss b)

pub below_all : (cover : List ℕ) (gs : List Gap) (start : ℕ) → Below cover gs start 65536 → 65536 ≤ start → (ss : List Stand) → Counts cover ss → Represents gs ss
below_all cover gs start r le ss c =
    let e : start ≡ 65536 = omega (arith, r.le, le) in
    record { sorted = r.sorted; free = λ b. r.free b ∙ rw e (free-counts cover ss b c) }

free-last : (f : Bool) (b start : ℕ) → start ≤ 65536 → (start ≤ b → b < 65536 → f ≡ true) → ((nat_lt b start && f) || (nat_le start b && nat_lt b 65536)) ≡ (nat_lt b 65536 && f)
free-last true b start l h = grind (arith, nat_tests, l)
free-last false b start l h = by (nat_le start b) (nat_lt b 65536) refl refl
  where
    by : (t u : Bool) → nat_le start b ≡ t → nat_lt b 65536 ≡ u → ((nat_lt b start && false) || (t && u)) ≡ (u && false)
    by true true e g = absurd (cc (h (grind (arith, nat_tests, e)) (grind (arith, nat_tests, g))))
    by true false e g = grind (arith, nat_tests)
    by false true e g = grind (arith, nat_tests)
    by false false e g = grind (arith, nat_tests)

pub below_last : (cover : List ℕ) (gs : List Gap) (g : Gap) (start : ℕ) → Below cover gs start 65536 → g.from ≡ start → g.end ≡ 65536 → (ss : List Stand) → Counts cover ss → Represents (gs ++ g ∷ []) ss
below_last cover gs g start r ef ee ss c = record {
  sorted = sorted-append gs 0 g r.sorted (subst (λ (n : ℕ). EndBefore n gs) (sym ef) r.ends) (omega arith) (omega (arith, ef, ee, r.le));
  free = λ b. in-append gs g b ∙ rw (r.free b, ef, ee) (free-last (is_free cover b) b start r.le (r.rest b) ∙ free-counts cover ss b c);
}

-- ---- a table of counts, one place raised

begins_suc : (ss : List Stand) (i : ℕ) (d : Stand) (a : ℕ) → i < length ss → begins_at (take (suc i) ss) a ≡ (if (get_or ss i d).at == a then 1 + begins_at (take i ss) a else begins_at (take i ss) a)
begins_suc [] i d a l = absurd (omega arith)
begins_suc (s ∷ ss) zero d a l = refl
begins_suc (s ∷ ss) (suc i) d a l =
    let h = begins_suc ss i d a (omega arith) in
    rw h (swapped ((get_or ss i d).at == a) (s.at == a) (begins_at (take i ss) a))
  where
    swapped : (t u : Bool) (n : ℕ) → (if u then 1 + (if t then 1 + n else n) else (if t then 1 + n else n)) ≡ (if t then 1 + (if u then 1 + n else n) else (if u then 1 + n else n))
    swapped true true n = refl
    swapped true false n = refl
    swapped false u n = refl

ends_suc : (ss : List Stand) (i : ℕ) (d : Stand) (a : ℕ) → i < length ss → ends_at (take (suc i) ss) a ≡ (if (get_or ss i d).at + (get_or ss i d).piece.size == a then 1 + ends_at (take i ss) a else ends_at (take i ss) a)
ends_suc [] i d a l = absurd (omega arith)
ends_suc (s ∷ ss) zero d a l = refl
ends_suc (s ∷ ss) (suc i) d a l =
    let h = ends_suc ss i d a (omega arith) in
    rw h (swapped ((get_or ss i d).at + (get_or ss i d).piece.size == a) (s.at + s.piece.size == a) (ends_at (take i ss) a))
  where
    swapped : (t u : Bool) (n : ℕ) → (if u then 1 + (if t then 1 + n else n) else (if t then 1 + n else n)) ≡ (if t then 1 + (if u then 1 + n else n) else (if u then 1 + n else n))
    swapped true true n = refl
    swapped true false n = refl
    swapped false u n = refl

pub begins_more : (ss : List Stand) (i : ℕ) (d : Stand) (a : ℕ) → i < length ss → begins_at (take (i + 1) ss) a ≡ (if (get_or ss i d).at == a then 1 + begins_at (take i ss) a else begins_at (take i ss) a)
begins_more ss i d a l = rw add-one (begins_suc ss i d a l)

pub ends_more : (ss : List Stand) (i : ℕ) (d : Stand) (a : ℕ) → i < length ss → ends_at (take (i + 1) ss) a ≡ (if (get_or ss i d).at + (get_or ss i d).piece.size == a then 1 + ends_at (take i ss) a else ends_at (take i ss) a)
ends_more ss i d a l = rw add-one (ends_suc ss i d a l)

pub marked : (table : List ℕ) (k : ℕ) (f g : ℕ → ℕ) → length table ≡ 65537 →
    ((a : ℕ) → a < 65537 → get_or table a 0 ≡ f a) → ((a : ℕ) → g a ≡ (if k == a then 1 + f a else f a)) → (a : ℕ) → a < 65537 → get_or (set table k (get_or table k 0 + 1)) a 0 ≡ g a
marked table k f g size h step a m = by (k == a) refl (step a)
  where
    by : (t : Bool) → (k == a) ≡ t → g a ≡ (if t then 1 + f a else f a) → get_or (set table k (get_or table k 0 + 1)) a 0 ≡ g a
    by true q w =
        let s : k ≡ a = grind (arith, nat_tests, q) in
        let r : get_or (set table a (get_or table a 0 + 1)) a 0 ≡ get_or table a 0 + 1 = get_or-set_same table a (get_or table a 0 + 1) 0 (omega (arith, size, m)) in
        let r2 : get_or (set table k (get_or table k 0 + 1)) a 0 ≡ get_or table a 0 + 1 = subst (λ (n : ℕ). get_or (set table n (get_or table n 0 + 1)) a 0 ≡ get_or table a 0 + 1) (sym s) r in
        omega (arith, w, r2, h a m)
    by false q w =
        let s : a ≢ k = grind (arith, nat_tests, q) in
        let r : get_or (set table k (get_or table k 0 + 1)) a 0 ≡ get_or table a 0 = get_or-set_other table k a (get_or table k 0 + 1) 0 s in
        omega (arith, w, r, h a m)

past-table : (table : List ℕ) (k : ℕ) → length table ≤ k → get_or table k 0 ≡ 0
past-table [] k l = refl
past-table (x ∷ table) zero l = absurd (omega arith)
past-table (x ∷ table) (suc k) l = past-table table k (omega arith)

-- no count is above the number of pieces
pub mark_fits : (table : List ℕ) (k n : ℕ) (f : ℕ → ℕ) → length table ≡ 65537 → ((a : ℕ) → a < 65537 → get_or table a 0 ≡ f a) → ((a : ℕ) → f a ≤ n) → get_or table k 0 ≤ n
mark_fits table k n f size h le = by (nat_lt k 65537) refl
  where
    by : (t : Bool) → nat_lt k 65537 ≡ t → get_or table k 0 ≤ n
    by true q = let l : k < 65537 = grind (arith, nat_tests, q) in omega (arith, h k l, le k)
    by false q = let l : 65537 ≤ k = grind (arith, nat_tests, q) in omega (arith, past-table table k (omega (arith, size, l)))

pub two_true : (n m : ℕ) → 2 ≤ n → n ≡ m → nat_le 2 m ≡ true
two_true n m l e = grind (arith, nat_tests, l, e)

pub two_false : (n m : ℕ) → n < 2 → n ≡ m → nat_le 2 m ≡ false
two_false n m l e = grind (arith, nat_tests, l, e)

-- ---- one address of the sweep

taken-by : (cover : List ℕ) (a : ℕ) → 0 < get_or cover a 0 → is_free cover a ≡ false
taken-by cover a l = grind (arith, nat_tests, l)

pub push_step : (cover : List ℕ) (gs new : List Gap) (start next a : ℕ) → Below cover gs start a → 0 < get_or cover a 0 → new ≡ gs ++ (record { from = start; end = a }) ∷ [] → next ≡ a + 1 → Below cover new next (a + 1)
push_step cover gs new start next a r l e n = rw (e, n) (below_push cover gs (record { from = start; end = a }) start a r refl refl (taken-by cover a l))

pub stay_step : (cover : List ℕ) (gs new : List Gap) (start next a : ℕ) → Below cover gs start a → 0 < get_or cover a 0 → a ≤ start → new ≡ gs → next ≡ a + 1 → Below cover new next (a + 1)
stay_step cover gs new start next a r l le e n = rw (e, n) (below_stay cover gs start a r le (taken-by cover a l))

pub free_step : (cover : List ℕ) (gs new : List Gap) (start next a : ℕ) → Below cover gs start a → get_or cover a 0 ≤ 0 → new ≡ gs → next ≡ start → Below cover new next (a + 1)
free_step cover gs new start next a r l e n = rw (e, n) (below_more cover gs start a r (free_here cover a l))
  where
    free_here : (cover : List ℕ) (a : ℕ) → get_or cover a 0 ≤ 0 → is_free cover a ≡ true
    free_here cover a l = grind (arith, nat_tests, l)

pub last_step : (cover : List ℕ) (gs new : List Gap) (start a : ℕ) → Below cover gs start a → 65536 ≤ a → a ≤ 65536 → new ≡ gs ++ (record { from = start; end = 65536 }) ∷ [] → (ss : List Stand) → Counts cover ss → Represents new ss
last_step cover gs new start a r l m e ss c =
    let q : a ≡ 65536 = omega (arith, l, m) in
    let b : Below cover gs start 65536 = subst (λ (n : ℕ). Below cover gs start n) q r in
    rw e (below_last cover gs (record { from = start; end = 65536 }) start b refl refl ss c)

pub all_step : (cover : List ℕ) (gs new : List Gap) (start a : ℕ) → Below cover gs start a → 65536 ≤ a → a ≤ 65536 → 65536 ≤ start → new ≡ gs → (ss : List Stand) → Counts cover ss → Represents new ss
all_step cover gs new start a r l m s e ss c =
    let q : a ≡ 65536 = omega (arith, l, m) in
    let b : Below cover gs start 65536 = subst (λ (n : ℕ). Below cover gs start n) q r in
    rw e (below_all cover gs start b s ss c)

-- ---- one address of the count

pub standing_step : (ss : List Stand) (a standing begin end : ℕ) → standing ≡ open_at ss a → begin ≡ begins_at ss a → end ≡ ends_at ss a → standing + begin ≡ how_many ss a + end
standing_step ss a standing begin end s b e = omega (arith, s, b, e, balance ss a)

pub standing_fits : (ss : List Stand) (a standing begin end : ℕ) → standing ≡ open_at ss a → begin ≡ begins_at ss a → end ≡ ends_at ss a → standing + begin ≤ length ss
standing_fits ss a standing begin end s b e = omega (arith, s, b, e, balance ss a, sums_le ss a)

pub counted_more : (cover new : List ℕ) (ss : List Stand) (i v : ℕ) → length cover ≡ i → new ≡ cover ++ v ∷ [] → v ≡ how_many ss i → ((a : ℕ) → a < i → get_or cover a 0 ≡ how_many ss a) →
    (length new ≡ i + 1) × ((a : ℕ) → a < i + 1 → get_or new a 0 ≡ how_many ss a)
counted_more cover new ss i v size is here before = (ap (λ (l : List ℕ). length l) is ∙ omega (arith, length-append cover (v ∷ []), size), λ a l. by a l (nat_lt a i) refl)
  where
    by : (a : ℕ) → a < i + 1 → (t : Bool) → nat_lt a i ≡ t → get_or new a 0 ≡ how_many ss a
    by a l true q =
        let m : a < i = grind (arith, nat_tests, q) in
        rw is (get_or_append_left cover (v ∷ []) 0 a (omega (arith, size, m)) ∙ before a m)
    by a l false q =
        let m : i ≤ a = grind (arith, nat_tests, q) in
        let e : length cover ≡ a = omega (arith, size, l, m) in
        let f : i ≡ a = omega (arith, l, m) in
        let g : get_or (cover ++ v ∷ []) (length cover) 0 ≡ v = get_or-append_seam cover v [] 0 in
        rw is (subst (λ (n : ℕ). get_or (cover ++ v ∷ []) n 0 ≡ v) e g ∙ (here ∙ ap (how_many ss) f))

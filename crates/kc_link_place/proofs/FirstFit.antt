-- The first gap that fits has the least free address.
use Rattle.std.proofs.Common.{◌≡◌, ℕ, zero, suc, ◌+◌, ◌-◌, ◌%◌, ◌<◌, ◌≤◌, Bool, true, false, List, [], ◌∷◌, refl, sym, ap, ◌∙◌, arith, inl, inr}
use Rattle.std.specs.Prelude.{Option, Some, None, ◌⊎◌, ◌++◌, min, max, ◌&&◌, ◌||◌, ◌==◌, not, nat_lt, nat_le, if◌then◌else◌}
use Rattle.std.proofs.lemmas.Bool.Decides.{nat_tests}
use Rattle.kc_obj_module.specs.declared.parts.SegKind.{SegKind}
use Rattle.kc_obj_module.specs.declared.parts.SegKind.TheVariants.{Reg, Code, Ram, Stack}
use Rattle.kc_link_place.specs.declared.gaps.Gap.{Gap}
use Rattle.kc_link_place.specs.declared.pieces.Stand.{Stand}
use Rattle.kc_link_place.specs.Ranges.{step_of}
use Rattle.kc_link_place.specs.Stands.{has, is_taken, leaves_room, least, suits, least_free}
use Rattle.kc_link_place.specs.Gaps.{up, first_fit, empty_fit, in_gaps, Sorted, Represents, cut}

least_is : (p : ℕ → Bool) (n from a : ℕ) → from ≤ a → a < from + n → p a ≡ true → ((b : ℕ) → from ≤ b → b < a → p b ≡ false) → least p n from ≡ Some a
unfolding least
least_is p zero from a l h t f = absurd (omega arith)
least_is p (suc n) from a l h t f = elim (same-or-below from a l) [
  | inl e ↦ let q : p from ≡ true = rw e t in rw q (rw e refl)
  | inr b ↦ rw (f from (omega arith) b) (least_is p n (from + 1) a (omega (arith, b)) (omega arith) t (λ c i j. f c (omega arith) j))
]
  where
    same-or-below : (m n : ℕ) → m ≤ n → (m ≡ n) ⊎ (m < n)
    same-or-below zero zero h = inl refl
    same-or-below zero (suc n) h = inr (omega arith)
    same-or-below (suc m) zero h = absurd (omega arith)
    same-or-below (suc m) (suc n) h = elim (same-or-below m n (omega arith)) [ inl e ↦ inl (omega (arith, e)) | inr e ↦ inr (omega (arith, e)) ]

least_none : (p : ℕ → Bool) (n from : ℕ) → ((b : ℕ) → from ≤ b → b < from + n → p b ≡ false) → least p n from ≡ None
unfolding least
least_none p zero from f = refl
least_none p (suc n) from f = rw (f from (omega arith) (omega arith)) (least_none p n (from + 1) (λ b i j. f b (omega arith) (omega arith)))

up-above : (kind : SegKind) (n : ℕ) → n ≤ up kind n
up-above Reg n = omega arith
up-above Code n = omega arith
up-above Ram n = omega arith
up-above Stack n = omega arith

up-suits : (kind : SegKind) (n : ℕ) → up kind n % step_of kind ≡ 0
up-suits Reg n = omega arith
up-suits Code n = omega arith
up-suits Ram n = omega arith
up-suits Stack n = omega arith

up-least : (kind : SegKind) (n b : ℕ) → n ≤ b → b % step_of kind ≡ 0 → up kind n ≤ b
up-least Reg n b h e = omega arith
up-least Code n b h e = omega arith
up-least Ram n b h e = omega arith
up-least Stack n b h e = omega arith

-- some gap has all of so many addresses
abbrev Within : List Gap → ℕ → ℕ → Type 0
Within [] a count = ⊥
Within (g ∷ gs) a count = ((g.from ≤ a) × (a + count ≤ g.end)) ⊎ Within gs a count

within-above : (low : ℕ) (gs : List Gap) (a count : ℕ) → Sorted low gs → Within gs a count → low ≤ a
within-above low [] a count s w = absurd w
within-above low (g ∷ gs) a count s w = elim w [ inl h ↦ omega (arith, h.0, s.0) | inr h ↦ omega (arith, within-above (g.end + 1) gs a count s.1.1 h, s.0, s.1.0) ]

module _ (low last : ℕ) (kind : SegKind) (count : ℕ) where
  fit-within : (gs : List Gap) (a : ℕ) → first_fit low last kind count gs ≡ Some a → Within gs a count × (a % step_of kind ≡ 0) × (low ≤ a) × (a + count ≤ last + 1)
  fit-within [] a e = absurd (cc e)
  fit-within (g ∷ gs) a e = by (nat_le (up kind (max low g.from) + count) (min g.end (last + 1))) refl e (fit-within gs a)
    where
      by : (t : Bool) → nat_le (up kind (max low g.from) + count) (min g.end (last + 1)) ≡ t → (if t then Some (up kind (max low g.from)) else first_fit low last kind count gs) ≡ Some a →
          (first_fit low last kind count gs ≡ Some a → Within gs a count × (a % step_of kind ≡ 0) × (low ≤ a) × (a + count ≤ last + 1)) → ((((g.from ≤ a) × (a + count ≤ g.end)) ⊎ Within gs a count) × (a % step_of kind ≡ 0) × (low ≤ a) × (a + count ≤ last + 1))
      by true t e go =
          let f : up kind (max low g.from) ≡ a = cc e in
          let l : up kind (max low g.from) + count ≤ min g.end (last + 1) = grind (arith, nat_tests, t) in
          let u : max low g.from ≤ up kind (max low g.from) = up-above kind (max low g.from) in
          (inl (omega (arith, f, u), omega (arith, f, l)), rw (← f) (up-suits kind (max low g.from)), omega (arith, f, u), omega (arith, f, l))
      by false t e go = let r = go e in (inr r.0, r.1, r.2, r.3)

  fit-least : (from : ℕ) (gs : List Gap) (a b : ℕ) → Sorted from gs → first_fit low last kind count gs ≡ Some a → Within gs b count → b % step_of kind ≡ 0 → low ≤ b → b + count ≤ last + 1 → a ≤ b
  fit-least from [] a b s e w m lb hb = absurd w
  fit-least from (g ∷ gs) a b s e w m lb hb = by (nat_le (up kind (max low g.from) + count) (min g.end (last + 1))) refl e w (fit-least (g.end + 1) gs a b s.1.1) (within-above (g.end + 1) gs b count s.1.1)
    where
      by : (t : Bool) → nat_le (up kind (max low g.from) + count) (min g.end (last + 1)) ≡ t → (if t then Some (up kind (max low g.from)) else first_fit low last kind count gs) ≡ Some a → ((g.from ≤ b) × (b + count ≤ g.end)) ⊎ Within gs b count →
          (first_fit low last kind count gs ≡ Some a → Within gs b count → b % step_of kind ≡ 0 → low ≤ b → b + count ≤ last + 1 → a ≤ b) → (Within gs b count → g.end + 1 ≤ b) → a ≤ b
      by true t e (inl h) go above = let f : up kind (max low g.from) ≡ a = cc e in let k : max low g.from ≤ b = omega (arith, h.0, lb) in omega (arith, f, up-least kind (max low g.from) b k m)
      by true t e (inr h) go above =
          let f : up kind (max low g.from) ≡ a = cc e in
          let l : up kind (max low g.from) + count ≤ min g.end (last + 1) = grind (arith, nat_tests, t) in
          omega (arith, f, l, above h)
      by false t e (inl h) go above =
          let l : min g.end (last + 1) < up kind (max low g.from) + count = grind (arith, nat_tests, t) in
          let k : max low g.from ≤ b = omega (arith, h.0, lb) in
          absurd (omega (arith, l, h.1, hb, up-least kind (max low g.from) b k m))
      by false t e (inr h) go above = go e h m lb hb

  fit-none : (gs : List Gap) (b : ℕ) → first_fit low last kind count gs ≡ None → Within gs b count → b % step_of kind ≡ 0 → low ≤ b → b + count ≤ last + 1 → ⊥
  fit-none [] b e w m lb hb = w
  fit-none (g ∷ gs) b e w m lb hb = by (nat_le (up kind (max low g.from) + count) (min g.end (last + 1))) refl e w (fit-none gs b)
    where
      by : (t : Bool) → nat_le (up kind (max low g.from) + count) (min g.end (last + 1)) ≡ t → (if t then Some (up kind (max low g.from)) else first_fit low last kind count gs) ≡ None → ((g.from ≤ b) × (b + count ≤ g.end)) ⊎ Within gs b count →
          (first_fit low last kind count gs ≡ None → Within gs b count → b % step_of kind ≡ 0 → low ≤ b → b + count ≤ last + 1 → ⊥) → ⊥
      by true t e w go = cc e
      by false t e (inl h) go =
          let l : min g.end (last + 1) < up kind (max low g.from) + count = grind (arith, nat_tests, t) in
          let k : max low g.from ≤ b = omega (arith, h.0, lb) in
          omega (arith, l, h.1, hb, up-least kind (max low g.from) b k m)
      by false t e (inr h) go = go e h m lb hb

both : (a b : Bool) → (a && b) ≡ true → (a ≡ true) × (b ≡ true)
both true b e = (refl, e)
both false b e = absurd (cc e)

either-or : (a b : Bool) → (a || b) ≡ true → (a ≡ true) ⊎ (b ≡ true)
either-or true b e = inl refl
either-or false b e = inr e

not-true : (a : Bool) → not a ≡ true → a ≡ false
not-true true e = absurd (cc e)
not-true false e = refl

or-right : (a b : Bool) → b ≡ true → (a || b) ≡ true
or-right true b e = refl
or-right false b e = e

room-of : (taken : List Stand) (n from : ℕ) → ((k : ℕ) → k < n → is_taken taken (from + k) ≡ false) → leaves_room taken from n ≡ true
unfolding leaves_room
room-of taken zero from f = refl
room-of taken (suc n) from f =
    let z : from + 0 ≡ from = omega arith in
    let e : is_taken taken from ≡ false = rw z at (f 0 (omega arith)) in
    rw e (room-of taken n (from + 1) (λ k h. let q : (from + 1) + k ≡ from + suc k = omega arith in rw q (f (suc k) (omega arith))))

pub room-at : (taken : List Stand) (n from k : ℕ) → leaves_room taken from n ≡ true → k < n → is_taken taken (from + k) ≡ false
unfolding leaves_room
room-at taken zero from k e h = absurd (omega arith)
room-at taken (suc n) from zero e h = let z : from + 0 ≡ from = omega arith in rw z (not-true (is_taken taken from) (both (not (is_taken taken from)) (leaves_room taken (from + 1) n) e).0)
room-at taken (suc n) from (suc k) e h =
    let q : from + suc k ≡ (from + 1) + k = omega arith in
    rw q (room-at taken n (from + 1) k (both (not (is_taken taken from)) (leaves_room taken (from + 1) n) e).1 (omega arith))

in-above : (low : ℕ) (gs : List Gap) (a : ℕ) → Sorted low gs → in_gaps gs a ≡ true → low ≤ a
in-above low [] a s e = absurd (cc e)
in-above low (g ∷ gs) a s e = elim (either-or (nat_le g.from a && nat_lt a g.end) (in_gaps gs a) e) [
  | inl h ↦ let l : g.from ≤ a = grind (arith, nat_tests, h) in omega (arith, l, s.0)
  | inr h ↦ omega (arith, in-above (g.end + 1) gs a s.1.1 h, s.0, s.1.0)
]

within-free : (gs : List Gap) (a count k : ℕ) → Within gs a count → k < count → in_gaps gs (a + k) ≡ true
within-free [] a count k w h = absurd w
within-free (g ∷ gs) a count k (inl p) h = grind (arith, nat_tests, p.0, p.1, h)
within-free (g ∷ gs) a count k (inr p) h = or-right (nat_le g.from (a + k) && nat_lt (a + k) g.end) (in_gaps gs (a + k)) (within-free gs a count k p h)

below-or : (k n : ℕ) → (k < n) ⊎ (n ≤ k)
below-or k zero = inr (omega arith)
below-or zero (suc n) = inl (omega arith)
below-or (suc k) (suc n) = elim (below-or k n) [ inl h ↦ inl (omega arith) | inr h ↦ inr (omega arith) ]

run-within : (low : ℕ) (gs : List Gap) (a count : ℕ) → Sorted low gs → 0 < count → ((k : ℕ) → k < count → in_gaps gs (a + k) ≡ true) → Within gs a count
run-within low [] a count s h f = absurd (cc (f 0 h))
run-within low (g ∷ gs) a count s h f = elim (below-or g.end a) [
  | inl above ↦ inr (run-within (g.end + 1) gs a count s.1.1 h (λ k l.
      elim (either-or (nat_le g.from (a + k) && nat_lt (a + k) g.end) (in_gaps gs (a + k)) (f k l)) [
        | inl e ↦ let m : a + k < g.end = grind (arith, nat_tests, e) in absurd (omega (arith, m, above))
        | inr e ↦ e
      ]))
  | inr below ↦ elim (below-or g.end (a + count)) [
    | inr fits ↦ inl (first-in below, fits)
    | inl over ↦
        let k : ℕ = g.end - a in
        let q : a + k ≡ g.end = omega (arith, below) in
        let e : in_gaps (g ∷ gs) g.end ≡ true = rw q at (f k (omega (arith, over, below))) in
        elim (either-or (nat_le g.from g.end && nat_lt g.end g.end) (in_gaps gs g.end) e) [
          | inl t ↦ let m : g.end < g.end = grind (arith, nat_tests, t) in absurd (omega (arith, m))
          | inr t ↦ absurd (omega (arith, in-above (g.end + 1) gs g.end s.1.1 t))
        ]
  ]
]
  where
    first-in : a ≤ g.end → g.from ≤ a
    first-in below =
        let z : a + 0 ≡ a = omega arith in
        let e : in_gaps (g ∷ gs) a ≡ true = rw z at (f 0 h) in
        elim (either-or (nat_le g.from a && nat_lt a g.end) (in_gaps gs a) e) [
          | inl t ↦ grind (arith, nat_tests, t)
          | inr t ↦ absurd (omega (arith, in-above (g.end + 1) gs a s.1.1 t, below))
        ]

record Suits (gs : List Gap) (kind : SegKind) (last count a : ℕ) : Type 0 where
  within : Within gs a count
  even : a % step_of kind ≡ 0
  fits : a + count ≤ last + 1

free-parts : (a : ℕ) (t : Bool) → (nat_lt a 65536 && not t) ≡ true → t ≡ false
free-parts a t e = not-true t (both (nat_lt a 65536) (not t) e).1

suits-within : (kind : SegKind) (count : ℕ) (gs : List Gap) (taken : List Stand) (last a : ℕ) → Represents gs taken → 0 < count → last < 65536 → suits taken last (step_of kind) count a ≡ true → Suits gs kind last count a
suits-within kind count gs taken last a r h top e =
    let p = both (a % step_of kind == 0) (nat_le (a + count) (last + 1) && leaves_room taken a count) e in
    let q = both (nat_le (a + count) (last + 1)) (leaves_room taken a count) p.1 in
    let m : a + count ≤ last + 1 = grind (arith, nat_tests, q.0) in
    record {
      within = run-within 0 gs a count r.sorted h (λ k i.
          let u : is_taken taken (a + k) ≡ false = room-at taken count a k q.1 i in
          r.free (a + k) ∙ (rw u (below (a + k) (omega (arith, m, i, top)))));
      even = grind (arith, nat_tests, p.0);
      fits = m;
    }
  where
    below : (a : ℕ) → a < 65536 → (nat_lt a 65536 && not false) ≡ true
    below a h = grind (arith, nat_tests, h)

within-suits : (kind : SegKind) (count : ℕ) (gs : List Gap) (taken : List Stand) (last a : ℕ) → Represents gs taken → 0 < count → Within gs a count → a % step_of kind ≡ 0 → a + count ≤ last + 1 →
    suits taken last (step_of kind) count a ≡ true
within-suits kind count gs taken last a r h w m fits =
    let room : leaves_room taken a count ≡ true = room-of taken count a (λ k i. free-parts (a + k) (is_taken taken (a + k)) (sym (r.free (a + k)) ∙ within-free gs a count k w i)) in
    let end : nat_le (a + count) (last + 1) ≡ true = grind (arith, nat_tests, fits) in
    let even : (a % step_of kind == 0) ≡ true = grind (arith, nat_tests, m) in
    rw (even, end, room) refl

false-by : (p : ℕ → Bool) (b : ℕ) (t : Bool) → p b ≡ t → (p b ≡ true → ⊥) → p b ≡ false
false-by p b true e f = absurd (f e)
false-by p b false e f = e

pub first_is_least : (low last : ℕ) (kind : SegKind) (count : ℕ) (gs : List Gap) (taken : List Stand) → Represents gs taken → 0 < count → last < 65536 →
    first_fit low last kind count gs ≡ least_free taken (low, last) (step_of kind) count
first_is_least low last kind count gs taken r h top = by (first_fit low last kind count gs) refl
  where
    by : (o : Option ℕ) → first_fit low last kind count gs ≡ o → o ≡ least_free taken (low, last) (step_of kind) count
    by None e = sym (least_none (suits taken last (step_of kind) count) ((last + 1) - low) low (λ b l i. false-by (suits taken last (step_of kind) count) b (suits taken last (step_of kind) count b) refl (λ t.
        let q = suits-within kind count gs taken last b r h top t in fit-none low last kind count gs b e q.within q.even l q.fits)))
    by (Some a) e =
        let w = fit-within low last kind count gs a e in
        let s = within-suits kind count gs taken last a r h w.0 w.1 w.3 in
        sym (least_is (suits taken last (step_of kind) count) ((last + 1) - low) low a w.2 (omega (arith, w.2, w.3, h)) s (λ b l i. false-by (suits taken last (step_of kind) count) b (suits taken last (step_of kind) count b) refl (λ t.
        let q = suits-within kind count gs taken last b r h top t in
        omega (arith, i, fit-least low last kind count 0 gs a b r.sorted e q.within q.even l q.fits))))

-- an empty piece takes no address
empty_suits : (taken : List Stand) (kind : SegKind) (last a : ℕ) → a % step_of kind ≡ 0 → a ≤ last → suits taken last (step_of kind) 0 a ≡ true
unfolding leaves_room
empty_suits taken kind last a m h =
    let even : (a % step_of kind == 0) ≡ true = grind (arith, nat_tests, m) in
    let end : nat_le (a + 0) (last + 1) ≡ true = grind (arith, nat_tests, h) in
    rw (even, end) refl

pub empty_is_least : (low last : ℕ) (kind : SegKind) (taken : List Stand) → empty_fit kind low last ≡ least_free taken (low, last) (step_of kind) 0
empty_is_least low last kind taken = by (nat_le (up kind low) last) refl
  where
    by : (t : Bool) → nat_le (up kind low) last ≡ t → (if t then Some (up kind low) else None) ≡ least_free taken (low, last) (step_of kind) 0
    by true e =
        let l : up kind low ≤ last = grind (arith, nat_tests, e) in
        sym (least_is (suits taken last (step_of kind) 0) ((last + 1) - low) low (up kind low) (up-above kind low) (omega (arith, l, up-above kind low)) (empty_suits taken kind last (up kind low) (up-suits kind low) l) (λ b i j.
        false-by (suits taken last (step_of kind) 0) b (suits taken last (step_of kind) 0 b) refl (λ t.
        let p = both (b % step_of kind == 0) (nat_le (b + 0) (last + 1) && leaves_room taken b 0) t in
        let m : b % step_of kind ≡ 0 = grind (arith, nat_tests, p.0) in
        omega (arith, j, up-least kind low b i m))))
    by false e =
        let l : last < up kind low = grind (arith, nat_tests, e) in
        sym (least_none (suits taken last (step_of kind) 0) ((last + 1) - low) low (λ b i j.
        false-by (suits taken last (step_of kind) 0) b (suits taken last (step_of kind) 0 b) refl (λ t.
        let p = both (b % step_of kind == 0) (nat_le (b + 0) (last + 1) && leaves_room taken b 0) t in
        let m : b % step_of kind ≡ 0 = grind (arith, nat_tests, p.0) in
        omega (arith, j, l, up-least kind low b i m))))

cut-sorted : (gs : List Gap) (low a count : ℕ) → Sorted low gs → 0 < count → Within gs a count → Sorted low (cut gs a count)
cut-sorted [] low a count s h w = tt
cut-sorted (g ∷ gs) low a count s h w = by (nat_le g.from a && nat_le (a + count) g.end) refl w (cut-sorted gs (g.end + 1) a count s.1.1 h)
  where
    by : (t : Bool) → (nat_le g.from a && nat_le (a + count) g.end) ≡ t → ((g.from ≤ a) × (a + count ≤ g.end)) ⊎ Within gs a count → (Within gs a count → Sorted (g.end + 1) (cut gs a count)) →
        Sorted low (if t then ((record { from = g.from; end = a }) ∷ (record { from = a + count; end = g.end }) ∷ gs) else g ∷ cut gs a count)
    by true t w go =
        let p = both (nat_le g.from a) (nat_le (a + count) g.end) t in
        let l : g.from ≤ a = grind (arith, nat_tests, p.0) in
        let m : a + count ≤ g.end = grind (arith, nat_tests, p.1) in
        (s.0, (l, (omega (arith, h), (m, s.1.1))))
    by false t (inl p) go = absurd (grind (arith, nat_tests, t, p.0, p.1))
    by false t (inr p) go = (s.0, (s.1.0, go p))

cut-free : (gs : List Gap) (low : ℕ) (p : Stand) (b : ℕ) → Sorted low gs → 0 < p.piece.size → Within gs p.at p.piece.size → in_gaps (cut gs p.at p.piece.size) b ≡ (in_gaps gs b && not (has p b))
cut-free [] low p b s h w = absurd w
cut-free (g ∷ gs) low p b s h w = by (nat_le g.from p.at && nat_le (p.at + p.piece.size) g.end) refl w (cut-free gs (g.end + 1) p b s.1.1 h) (in_gaps gs b) refl
  where
    by : (t : Bool) → (nat_le g.from p.at && nat_le (p.at + p.piece.size) g.end) ≡ t → ((g.from ≤ p.at) × (p.at + p.piece.size ≤ g.end)) ⊎ Within gs p.at p.piece.size →
        (Within gs p.at p.piece.size → in_gaps (cut gs p.at p.piece.size) b ≡ (in_gaps gs b && not (has p b))) →
        (u : Bool) → in_gaps gs b ≡ u →
        in_gaps (if t then ((record { from = g.from; end = p.at }) ∷ (record { from = p.at + p.piece.size; end = g.end }) ∷ gs) else g ∷ cut gs p.at p.piece.size) b
        ≡ (((nat_le g.from b && nat_lt b g.end) || in_gaps gs b) && not (has p b))
    by true t w go true u =
        let above : g.end + 1 ≤ b = in-above (g.end + 1) gs b s.1.1 u in
        let q = both (nat_le g.from p.at) (nat_le (p.at + p.piece.size) g.end) t in
        let l : g.from ≤ p.at = grind (arith, nat_tests, q.0) in
        let m : p.at + p.piece.size ≤ g.end = grind (arith, nat_tests, q.1) in
        rw u (grind (arith, nat_tests, above, l, m))
    by true t w go false u =
        let q = both (nat_le g.from p.at) (nat_le (p.at + p.piece.size) g.end) t in
        let l : g.from ≤ p.at = grind (arith, nat_tests, q.0) in
        let m : p.at + p.piece.size ≤ g.end = grind (arith, nat_tests, q.1) in
        rw u (grind (arith, nat_tests, l, m))
    by false t (inl q) go u e = absurd (grind (arith, nat_tests, t, q.0, q.1))
    by false t (inr q) go u e =
        let above : g.end + 1 ≤ p.at = within-above (g.end + 1) gs p.at p.piece.size s.1.1 q in
        rw (go q) (grind (arith, nat_tests, above, h))

taken_after : (taken : List Stand) (s : Stand) (a : ℕ) → is_taken (taken ++ s ∷ []) a ≡ (has s a || is_taken taken a)
taken_after [] s a = refl
taken_after (t ∷ taken) s a = ap (λ (b : Bool). has t a || b) (taken_after taken s a) ∙ swapped (has t a) (has s a) (is_taken taken a)
  where
    swapped : (x y z : Bool) → (x || (y || z)) ≡ (y || (x || z))
    swapped true true z = refl
    swapped true false z = refl
    swapped false y z = refl

joined : (l t u : Bool) → ((l && not t) && not u) ≡ (l && not (u || t))
joined false t u = refl
joined true true true = refl
joined true true false = refl
joined true false true = refl
joined true false false = refl

-- a piece that stands where the gaps have room is cut out of them
pub cut_is_taken : (gaps : List Gap) (taken : List Stand) (s : Stand) → Represents gaps taken → 0 < s.piece.size → leaves_room taken s.at s.piece.size ≡ true → s.at + s.piece.size ≤ 65536 →
    Represents (cut gaps s.at s.piece.size) (taken ++ s ∷ [])
cut_is_taken gaps taken s r h room top =
    let w : Within gaps s.at s.piece.size = run-within 0 gaps s.at s.piece.size r.sorted h (λ k i.
    let u : is_taken taken (s.at + k) ≡ false = room-at taken s.piece.size s.at k room i in
    r.free (s.at + k) ∙ (rw u (below (s.at + k) (omega (arith, i, top))))) in
    record {
      sorted = cut-sorted gaps 0 s.at s.piece.size r.sorted h w;
      free = λ b. cut-free gaps 0 s b r.sorted h w ∙ (rw (r.free b, taken_after taken s b) (joined (nat_lt b 65536) (is_taken taken b) (has s b)));
    }
  where
    below : (a : ℕ) → a < 65536 → (nat_lt a 65536 && not false) ≡ true
    below a h = grind (arith, nat_tests, h)

-- an empty piece changes nothing
pub empty_is_taken : (gaps : List Gap) (taken : List Stand) (s : Stand) → Represents gaps taken → s.piece.size ≡ 0 → Represents gaps (taken ++ s ∷ [])
empty_is_taken gaps taken s r h = record {
  sorted = r.sorted;
  free = λ b. r.free b ∙ (rw (taken_after taken s b, nowhere b) refl);
}
  where
    nowhere : (b : ℕ) → has s b ≡ false
    nowhere b = grind (arith, nat_tests, h)

-- ---- what the least free address has

least_passes : (p : ℕ → Bool) (n from a : ℕ) → least p n from ≡ Some a → (p a ≡ true) × (from ≤ a) × (a < from + n)
unfolding least
least_passes p zero from a e = absurd (cc e)
least_passes p (suc n) from a e = by (p from) refl e (least_passes p n (from + 1) a)
  where
    by : (t : Bool) → p from ≡ t → (if t then Some from else least p n (from + 1)) ≡ Some a → (least p n (from + 1) ≡ Some a → (p a ≡ true) × (from + 1 ≤ a) × (a < (from + 1) + n)) → (p a ≡ true) × (from ≤ a) × (a < from + suc n)
    by true q f go = let g : from ≡ a = cc f in (rw (← g) q, omega (arith, g), omega (arith, g))
    by false q f go = let r = go f in (r.0, omega (arith, r.1), omega (arith, r.2))

pub record HasRoom (taken : List Stand) (low last step count a : ℕ) : Type 0 where
  pub room : leaves_room taken a count ≡ true
  pub above : low ≤ a
  pub fits : a + count ≤ last + 1
  pub within : a ≤ last

pub room_of_least : (taken : List Stand) (low last step count a : ℕ) → least_free taken (low, last) step count ≡ Some a → HasRoom taken low last step count a
room_of_least taken low last step count a e =
    let s = least_passes (suits taken last step count) ((last + 1) - low) low a e in
    let p = both (a % step == 0) (nat_le (a + count) (last + 1) && leaves_room taken a count) s.0 in
    let q = both (nat_le (a + count) (last + 1)) (leaves_room taken a count) p.1 in
    record { room = q.1; above = s.1; fits = grind (arith, nat_tests, q.0); within = omega (arith, s.1, s.2) }

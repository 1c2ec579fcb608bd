-- A byte and what relocations put at it are a byte.
use Rattle.std.proofs.Common.{◌≡◌, ℕ, zero, suc, ◌+◌, ◌<◌, ◌≤◌, Bool, true, false, ◌&&◌, ◌||◌, eqb, ltb, leb, List, [], ◌∷◌, Option, Some, None, refl, subst, inl, inr, arith}
use Rattle.std.specs.Prelude.{if◌then◌else◌, ◌⊎◌}
use Rattle.std.specs.List.{list_all}
use Rattle.std.proofs.lemmas.Bool.{and_parts}
use Rattle.std.proofs.lemmas.Bool.Decides.{nat_tests}
use Rattle.kc_obj_module.specs.declared.parts.Content.{Content}
use Rattle.kc_obj_module.specs.declared.parts.Fixup.{Fixup}
use Rattle.kc_obj_module.specs.Contents.{content_at}
use Rattle.kc_obj_module.specs.Fixups.{fixups_in_order, has_room, may_begin, is_zero, fixup_at}
use Rattle.kc_obj_module.specs.Numbers.{Bases, first_part, second_part, width}
use Rattle.kc_link_place.specs.Filled.{fixup_number, first_of_fixup, second_of_fixup, second_at, is_fit, unfit_in}
use Rattle.kc_obj_module.proofs.RoomLemmas.{rest_in_order, next_follows}
use Rattle.kc_link_place.proofs.Sorted.{none_behind}

pub record IsThere (cs : List Content) (b : Bases) (p k : ℕ) (f : Fixup) : Type 0 where
  pub room : has_room cs f ≡ true
  pub fit : is_fit b f ≡ true
  pub piece_is : f.piece ≡ p
  pub offset_is : f.offset ≡ k

both_same : (a b c d : ℕ) → (eqb a b && eqb c d) ≡ true → (a ≡ b) × (c ≡ d)
both_same a b c d e = (grind (arith, nat_tests, e), grind (arith, nat_tests, e))

pub there : (cs : List Content) (b : Bases) (fs : List Fixup) (p k : ℕ) (f : Fixup) → list_all (has_room cs) fs ≡ true → unfit_in b fs ≡ None → fixup_at fs p k ≡ Some f → IsThere cs b p k f
unfolding fixup_at unfit_in
there cs b [] p k f r u e = absurd (cc e)
there cs b (x ∷ fs) p k f r u e =
    let rooms = and_parts (has_room cs x) (list_all (has_room cs) fs) r in
    by (is_fit b x) (eqb x.piece p && eqb x.offset k) refl refl u e rooms.0 (there cs b fs p k f rooms.1)
  where
    by : (t v : Bool) → is_fit b x ≡ t → (eqb x.piece p && eqb x.offset k) ≡ v → (if t then unfit_in b fs else Some x) ≡ None → (if v then Some x else fixup_at fs p k) ≡ Some f →
        has_room cs x ≡ true → (unfit_in b fs ≡ None → fixup_at fs p k ≡ Some f → IsThere cs b p k f) → IsThere cs b p k f
    by false v p1 q h e1 r1 go = absurd (cc h)
    by true false p1 q h e1 r1 go = go h e1
    by true true p1 q h e1 r1 go =
        let g : x ≡ f = cc e1 in
        let s = both_same x.piece p x.offset k q in
        subst (λ (y : Fixup). IsThere cs b p k y) g (record { room = r1; fit = p1; piece_is = s.0; offset_is = s.1 })

-- ---- no relocation stands over another

behind_width : (q o w s r p j : ℕ) → (ltb q s || (eqb q s && leb (o + w) r)) ≡ true → q ≡ p → o ≡ j → w ≡ 2 → (ltb p s || (eqb p s && ltb (suc j) r)) ≡ true
behind_width q o w s r p j h e f g = grind (arith, nat_tests)

behind_next : (p j q o : ℕ) → q ≡ p → o ≡ suc j → (ltb p q || (eqb p q && ltb j o)) ≡ true
behind_next p j q o e f = grind (arith, nat_tests)

apart_numbers : (q o p j : ℕ) → q ≡ p → o ≡ j → (eqb q p && eqb o (suc j)) ≡ false
apart_numbers q o p j e f = grind (arith, nat_tests)

tail_none : (p j : ℕ) (x : Fixup) (fs : List Fixup) → fixups_in_order (x ∷ fs) ≡ true → x.piece ≡ p → x.offset ≡ j → width x.kind ≡ 2 → fixup_at fs p (suc j) ≡ None
unfolding fixup_at
tail_none p j x [] h e f w = refl
tail_none p j x (y ∷ fs) h e f w = none_behind p (suc j) y fs (rest_in_order x (y ∷ fs) h) (behind_width x.piece x.offset (width x.kind) y.piece y.offset p j (next_follows x y fs h) e f w)

pub apart : (p j : ℕ) (g f : Fixup) (fs : List Fixup) → fixups_in_order fs ≡ true → fixup_at fs p j ≡ Some g → fixup_at fs p (suc j) ≡ Some f → width g.kind ≡ 2 → ⊥
unfolding fixup_at
apart p j g f [] h a b w = cc a
apart p j g f (x ∷ fs) h a b w = by (eqb x.piece p && eqb x.offset j) (eqb x.piece p && eqb x.offset (suc j)) refl refl a b (apart p j g f fs (rest_in_order x fs h))
  where
    by : (t u : Bool) → (eqb x.piece p && eqb x.offset j) ≡ t → (eqb x.piece p && eqb x.offset (suc j)) ≡ u →
        (if t then Some x else fixup_at fs p j) ≡ Some g → (if u then Some x else fixup_at fs p (suc j)) ≡ Some f →
        (fixup_at fs p j ≡ Some g → fixup_at fs p (suc j) ≡ Some f → width g.kind ≡ 2 → ⊥) → ⊥
    by true true d e a1 b1 go =
        let s = both_same x.piece p x.offset j d in
        let n = apart_numbers x.piece x.offset p j s.0 s.1 in cc (e, n)
    by true false d e a1 b1 go =
        let s = both_same x.piece p x.offset j d in
        let i : x ≡ g = cc a1 in
        let n : fixup_at fs p (suc j) ≡ None = tail_none p j x fs h s.0 s.1 (rw i w) in
        cc (n, b1)
    by false true d e a1 b1 go =
        let s = both_same x.piece p x.offset (suc j) e in
        let n : fixup_at (x ∷ fs) p j ≡ None = none_behind p j x fs h (behind_next p j x.piece x.offset s.0 s.1) in
        cc (n, a)
    by false false d e a1 b1 go = go a1 b1 w

-- ---- the sum

first_low : (kind n : ℕ) → kind ≡ 3 → first_part kind n ≤ 7
unfolding first_part
first_low kind n e = rw e (omega arith)

opening : (kind byte : ℕ) → may_begin kind (Some byte) ≡ true → (byte ≡ 0) ⊎ ((kind ≡ 3) × (byte ≤ 40))
opening kind byte h = by (eqb kind 3) refl h
  where
    by : (t : Bool) → eqb kind 3 ≡ t → (if t then (eqb byte 0x20 || eqb byte 0x28) else eqb byte 0) ≡ true → (byte ≡ 0) ⊎ ((kind ≡ 3) × (byte ≤ 40))
    by true e h1 = inr (grind (arith, nat_tests, e), grind (arith, nat_tests, h1))
    by false e h1 = inl (grind (arith, nat_tests, h1))

wide_is : (kind : ℕ) → eqb (width kind) 2 ≡ true → width kind ≡ 2
wide_is kind h = grind (arith, nat_tests, h)

zero_is : (byte : ℕ) → is_zero (Some byte) ≡ true → byte ≡ 0
zero_is byte h = grind (arith, nat_tests, h)

module _ (cs : List Content) (b : Bases) (fs : List Fixup) (p : ℕ) (rooms : list_all (has_room cs) fs ≡ true) (fit : unfit_in b fs ≡ None) (ordered : fixups_in_order fs ≡ true) where
  -- where a relocation begins, none goes on
  nothing_goes_on : (k : ℕ) (f : Fixup) → fixup_at fs p k ≡ Some f → second_at b fs p k ≡ 0
  nothing_goes_on zero f e = refl
  nothing_goes_on (suc j) f e = by (fixup_at fs p j) refl
    where
      by2 : (g : Fixup) → fixup_at fs p j ≡ Some g → (t : Bool) → eqb (width g.kind) 2 ≡ t → (if t then second_part g.kind (fixup_number b (b.piece p + j) g) else 0) ≡ 0
      by2 g d true w = absurd (apart p j g f fs ordered d e (wide_is g.kind w))
      by2 g d false w = refl

      by : (o : Option Fixup) → fixup_at fs p j ≡ o → second_of_fixup b (b.piece p + j) o ≡ 0
      by None d = refl
      by (Some g) d = by2 g d (eqb (width g.kind) 2) refl

  -- where one goes on, the byte is 0
  goes_on : (k byte : ℕ) → content_at cs p k ≡ Some byte → (byte ≡ 0) ⊎ (second_at b fs p k ≡ 0)
  goes_on zero byte c = inr refl
  goes_on (suc j) byte c = by (fixup_at fs p j) refl
    where
      byte_zero : (g : Fixup) → fixup_at fs p j ≡ Some g → eqb (width g.kind) 2 ≡ true → byte ≡ 0
      byte_zero g d w =
          let t = there cs b fs p j g rooms fit d in
          let r = and_parts (may_begin g.kind (content_at cs g.piece g.offset)) (eqb (width g.kind) 1 || is_zero (content_at cs g.piece (g.offset + 1))) t.room in
          let n : g.offset + 1 ≡ suc j = omega (arith, t.offset_is) in
          let z : (eqb (width g.kind) 1 || is_zero (content_at cs g.piece (g.offset + 1))) ≡ true = r.1 in
          let q : is_zero (content_at cs g.piece (g.offset + 1)) ≡ true = rw (wide_is g.kind w) at z in
          let s : is_zero (content_at cs p (suc j)) ≡ true = subst (λ (y : ℕ). is_zero (content_at cs p y) ≡ true) n (subst (λ (x : ℕ). is_zero (content_at cs x (g.offset + 1)) ≡ true) t.piece_is q) in
          zero_is byte (rw c at s)

      by2 : (g : Fixup) → fixup_at fs p j ≡ Some g → (t : Bool) → eqb (width g.kind) 2 ≡ t → (byte ≡ 0) ⊎ ((if t then second_part g.kind (fixup_number b (b.piece p + j) g) else 0) ≡ 0)
      by2 g d true w = inl (byte_zero g d w)
      by2 g d false w = inr refl

      by : (o : Option Fixup) → fixup_at fs p j ≡ o → (byte ≡ 0) ⊎ (second_of_fixup b (b.piece p + j) o ≡ 0)
      by None d = inr refl
      by (Some g) d = by2 g d (eqb (width g.kind) 2) refl

  pub sum_fits : (k byte first second : ℕ) → content_at cs p k ≡ Some byte → byte < 256 → first < 256 → second < 256 →
      first ≡ first_of_fixup b (b.piece p + k) (fixup_at fs p k) → second ≡ second_at b fs p k → byte + (first + second) < 256
  sum_fits k byte first second c lb lf ls f s = by (fixup_at fs p k) refl f
    where
      by : (o : Option Fixup) → fixup_at fs p k ≡ o → first ≡ first_of_fixup b (b.piece p + k) o → byte + (first + second) < 256
      by None e f1 = elim (goes_on k byte c) [ inl z ↦ omega (arith, z, f1) | inr z ↦ omega (arith, z, f1, s) ]
      by (Some g) e f1 =
          let z : second_at b fs p k ≡ 0 = nothing_goes_on k g e in
          let t = there cs b fs p k g rooms fit e in
          let r = and_parts (may_begin g.kind (content_at cs g.piece g.offset)) (eqb (width g.kind) 1 || is_zero (content_at cs g.piece (g.offset + 1))) t.room in
          let q : may_begin g.kind (content_at cs p k) ≡ true = subst (λ (y : ℕ). may_begin g.kind (content_at cs p y) ≡ true) t.offset_is (subst (λ (x : ℕ). may_begin g.kind (content_at cs x g.offset) ≡ true) t.piece_is r.0) in
          elim (opening g.kind byte (rw c at q)) [
            | inl d ↦ omega (arith, d, z, s)
            | inr d ↦ omega (arith, d.0, d.1, z, s, f1, first_low g.kind (fixup_number b (b.piece p + k) g) d.0)
          ]

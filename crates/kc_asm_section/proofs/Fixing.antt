-- Relocations of what is put: in order, with room, one at a place.
use Rattle.std.proofs.Common.{◌≡◌, ℕ, ◌+◌, Bool, true, false, ◌&&◌, ◌||◌, eqb, if◌then◌else◌, Option, Some, None, List, [], ◌∷◌, ◌++◌, refl, sym, ap, ◌∙◌, ◌⊎◌, inl, inr, arith}
use Rattle.std.specs.List.{list_all}
use Rattle.std.proofs.lemmas.Bool.{and_parts}
use Rattle.std.proofs.lemmas.Bool.Decides.{nat_tests}
use Rattle.kc_obj_module.specs.declared.parts.Content.{Content}
use Rattle.kc_obj_module.specs.declared.parts.Fixup.{Fixup}
use Rattle.kc_obj_module.specs.Contents.{content_at, is_from}
use Rattle.kc_obj_module.specs.Numbers.{width}
use Rattle.kc_obj_module.specs.Fixups.{fixup_at, fixup_follows, fixups_in_order, may_begin, is_zero, has_room}
use Rattle.kc_obj_module.proofs.RoomLemmas.{from_joined}
use Rattle.kc_asm_section.specs.declared.puts.Put.{Put}
use Rattle.kc_asm_section.specs.Runs.{listed, fixups_of}
use Rattle.kc_asm_section.proofs.RunBytes.{is_at, put_byte}
use Rattle.kc_asm_section.proofs.RunOrder.{rises, both}
use Rattle.kc_asm_section.proofs.Flat.{rises_weaker, look, own_fixup}

-- the next byte is free for the second part of a number
abbrev pub NextFree : Put → List Put → Type 0
NextFree q [] = ⊥
NextFree q (r ∷ rs) = (r.piece ≡ q.piece) × (r.offset ≡ q.offset + 1) × (r.byte ≡ 0) × (r.fixup ≡ None)

abbrev pub Fits : Option Fixup → Put → List Put → Type 0
Fits None q qs = Unit {0}
Fits (Some f) q qs = (f.piece ≡ q.piece) × (f.offset ≡ q.offset) × (may_begin f.kind (Some q.byte) ≡ true) × (width f.kind ≡ 2 → NextFree q qs)

-- each relocation stands at its byte, and has room
abbrev pub AllFit : List Put → Type 0
AllFit [] = Unit {0}
AllFit (q ∷ qs) = Fits q.fixup q qs × AllFit qs

-- ---- in order

abbrev is_after : ℕ → ℕ → Option Fixup → Put → Bool
is_after p o None q = true
is_after p o (Some f) q = is_from p o q.piece q.offset

abbrev are_after : ℕ → ℕ → List Put → Bool
are_after p o [] = true
are_after p o (q ∷ qs) = is_after p o q.fixup q && are_after p o qs

one_after : (p o : ℕ) (f : Option Fixup) (q : Put) → is_from p o q.piece q.offset ≡ true → is_after p o f q ≡ true
one_after p o None q h = refl
one_after p o (Some f) q h = h

step_on : (p o : ℕ) → is_from p o p (o + 1) ≡ true
step_on p o = grind (arith, nat_tests)

all_after : (p o : ℕ) (qs : List Put) → rises p o qs ≡ true → are_after p o qs ≡ true
all_after p o [] h = refl
all_after p o (q ∷ qs) h =
    let parts = and_parts (is_from p o q.piece q.offset) (rises q.piece (q.offset + 1) qs) h in
    let on : is_from p o q.piece (q.offset + 1) ≡ true = from_joined p o q.piece q.offset q.piece (q.offset + 1) parts.0 (step_on q.piece q.offset) in
    both (is_after p o q.fixup q) (are_after p o qs) (one_after p o q.fixup q parts.0) (all_after p o qs (rises_weaker p o q.piece (q.offset + 1) qs on parts.1))

one_or_two : (t : Bool) (n : ℕ) → n ≡ (if t then 1 else 2) → (n ≡ 1) ⊎ (n ≡ 2)
one_or_two true n e = inl e
one_or_two false n e = inr e

width_cases : (kind : ℕ) → (width kind ≡ 1) ⊎ (width kind ≡ 2)
width_cases kind = one_or_two (eqb kind 1 || eqb kind 2) (width kind) refl

skip_free : (p o : ℕ) (f : Option Fixup) (r : Put) (b : Bool) → f ≡ None → b ≡ true → (is_after p o f r && b) ≡ true
skip_free p o None r b e h = h
skip_free p o (Some f) r b e h = absurd (cc)

-- the relocations behind one
next_after : (f : Fixup) (q : Put) (qs : List Put) → Fits (Some f) q qs → rises q.piece (q.offset + 1) qs ≡ true → are_after f.piece (f.offset + width f.kind) qs ≡ true
next_after f q qs fit rising = elim (width_cases f.kind) [ inl one ↦ narrow one | inr two ↦ wide qs two (fit.3 two) rising ]
  where
    narrow : width f.kind ≡ 1 → are_after f.piece (f.offset + width f.kind) qs ≡ true
    narrow one = rw (one, fit.0, fit.1) (all_after q.piece (q.offset + 1) qs rising)

    wide : (qs : List Put) → width f.kind ≡ 2 → NextFree q qs → rises q.piece (q.offset + 1) qs ≡ true → are_after f.piece (f.offset + width f.kind) qs ≡ true
    wide [] two free h = absurd free
    wide (r ∷ rs) two free h =
        let parts = and_parts (is_from q.piece (q.offset + 1) r.piece r.offset) (rises r.piece (r.offset + 1) rs) h in
        let place : f.offset + width f.kind ≡ r.offset + 1 = omega (arith, two, fit.1, free.1) in
        let piece : f.piece ≡ r.piece = fit.0 ∙ sym free.0 in
        let moved : are_after f.piece (f.offset + width f.kind) (r ∷ rs) ≡ are_after r.piece (r.offset + 1) (r ∷ rs) = (λ i. are_after (piece i) (place i) (r ∷ rs)) in
        moved ∙ (skip_free r.piece (r.offset + 1) r.fixup r (are_after r.piece (r.offset + 1) rs) free.3 (all_after r.piece (r.offset + 1) rs parts.1))

module _ (q : Put) (qs : List Put) (parts : rises q.piece (q.offset + 1) qs ≡ true)
    (more : (f : Fixup) → are_after f.piece (f.offset + width f.kind) qs ≡ true → fixups_in_order (f ∷ fixups_of qs) ≡ true) where
  one_more : (f : Fixup) (g : Option Fixup) → is_after f.piece (f.offset + width f.kind) g q ≡ true → are_after f.piece (f.offset + width f.kind) qs ≡ true → Fits g q qs
      → fixups_in_order (f ∷ (listed g ++ fixups_of qs)) ≡ true
  unfolding fixups_in_order
  one_more f None first rest fit = more f rest
  one_more f (Some g) first rest fit =
      let here : is_from f.piece (f.offset + width f.kind) g.piece g.offset ≡ true = rw (fit.0, fit.1) first in
      both (fixup_follows f g) (fixups_in_order (g ∷ fixups_of qs)) here (more g (next_after g q qs fit parts))

  one_first : (g : Option Fixup) → fixups_in_order (fixups_of qs) ≡ true → Fits g q qs → fixups_in_order (listed g ++ fixups_of qs) ≡ true
  one_first None h fit = h
  one_first (Some g) h fit = more g (next_after g q qs fit parts)

order_after : (qs : List Put) (p o : ℕ) → rises p o qs ≡ true → AllFit qs → (f : Fixup) → are_after f.piece (f.offset + width f.kind) qs ≡ true → fixups_in_order (f ∷ fixups_of qs) ≡ true
unfolding fixups_in_order fixups_of
order_after [] p o rising fit f after = refl
order_after (q ∷ qs) p o rising fit f after =
    let parts = and_parts (is_from p o q.piece q.offset) (rises q.piece (q.offset + 1) qs) rising in
    let afters = and_parts (is_after f.piece (f.offset + width f.kind) q.fixup q) (are_after f.piece (f.offset + width f.kind) qs) after in
    one_more q qs parts.1 (order_after qs q.piece (q.offset + 1) parts.1 fit.1) f q.fixup afters.0 afters.1 fit.0

pub fixups_ordered : (qs : List Put) (p o : ℕ) → rises p o qs ≡ true → AllFit qs → fixups_in_order (fixups_of qs) ≡ true
unfolding fixups_in_order fixups_of
fixups_ordered [] p o rising fit = refl
fixups_ordered (q ∷ qs) p o rising fit =
    let parts = and_parts (is_from p o q.piece q.offset) (rises q.piece (q.offset + 1) qs) rising in
    one_first q qs parts.1 (order_after qs q.piece (q.offset + 1) parts.1 fit.1) q.fixup (fixups_ordered qs q.piece (q.offset + 1) parts.1 fit.1) fit.0

-- ---- with room

abbrev SameBytes : List Content → List Put → ℕ → ℕ → Type 0
SameBytes contents qs p o = (piece offset : ℕ) → is_from p o piece offset ≡ true → content_at contents piece offset ≡ put_byte qs piece offset

at_self : (q r : ℕ) → (eqb q q && eqb r r) ≡ true
at_self q r = grind (arith, nat_tests)

not_at : (q r p o : ℕ) → is_from q (r + 1) p o ≡ true → (eqb q p && eqb r o) ≡ false
not_at q r p o h = grind (arith, nat_tests)

from_self : (p o : ℕ) → is_from p o p o ≡ true
from_self p o = grind (arith, nat_tests)

bytes_after : (contents : List Content) (q : Put) (qs : List Put) (p o : ℕ) → is_from p o q.piece q.offset ≡ true → SameBytes contents (q ∷ qs) p o → SameBytes contents qs q.piece (q.offset + 1)
bytes_after contents q qs p o h same piece offset from =
    let on : is_from p o piece offset ≡ true = from_joined p o q.piece q.offset piece offset h (from_joined q.piece q.offset q.piece (q.offset + 1) piece offset (step_on q.piece q.offset) from) in
    same piece offset on ∙ rw (not_at q.piece q.offset piece offset from) refl

first_byte : (contents : List Content) (q : Put) (qs : List Put) (p o : ℕ) → is_from p o q.piece q.offset ≡ true → SameBytes contents (q ∷ qs) p o → content_at contents q.piece q.offset ≡ Some q.byte
first_byte contents q qs p o h same = same q.piece q.offset h ∙ rw (at_self q.piece q.offset) refl

second_zero : (contents : List Content) (q : Put) (qs : List Put) → SameBytes contents qs q.piece (q.offset + 1) → NextFree q qs → is_zero (content_at contents q.piece (q.offset + 1)) ≡ true
second_zero contents q [] same free = absurd free
second_zero contents q (r ∷ rs) same free =
    let from : is_from q.piece (q.offset + 1) r.piece r.offset ≡ true = rw (free.0, free.1) (from_self q.piece (q.offset + 1)) in
    let byte : content_at contents r.piece r.offset ≡ Some r.byte = first_byte contents r rs q.piece (q.offset + 1) from same in
    let there : content_at contents q.piece (q.offset + 1) ≡ Some 0 = (λ i. content_at contents (sym free.0 i) (sym free.1 i)) ∙ byte ∙ ap (λ (b : ℕ). Some b) free.2 in
    rw there refl

room : (contents : List Content) (f : Fixup) (q : Put) (qs : List Put) → content_at contents q.piece q.offset ≡ Some q.byte → SameBytes contents qs q.piece (q.offset + 1) → Fits (Some f) q qs → has_room contents f ≡ true
room contents f q qs byte same fit =
    let begins : may_begin f.kind (content_at contents f.piece f.offset) ≡ true = rw (fit.0, fit.1, byte) fit.2 in
    both (may_begin f.kind (content_at contents f.piece f.offset)) (eqb (width f.kind) 1 || is_zero (content_at contents f.piece (f.offset + 1))) begins
    (elim (width_cases f.kind) [ inl one ↦ narrow one | inr two ↦ wide two ])
  where
    narrow : width f.kind ≡ 1 → (eqb (width f.kind) 1 || is_zero (content_at contents f.piece (f.offset + 1))) ≡ true
    narrow one = rw one refl

    wide : width f.kind ≡ 2 → (eqb (width f.kind) 1 || is_zero (content_at contents f.piece (f.offset + 1))) ≡ true
    wide two = rw (two, fit.0, fit.1) (second_zero contents q qs same (fit.3 two))

module _ (contents : List Content) (q : Put) (qs : List Put) (byte : content_at contents q.piece q.offset ≡ Some q.byte) (same : SameBytes contents qs q.piece (q.offset + 1)) where
  one_room : (g : Option Fixup) → Fits g q qs → list_all (has_room contents) (fixups_of qs) ≡ true → list_all (has_room contents) (listed g ++ fixups_of qs) ≡ true
  one_room None fit h = h
  one_room (Some g) fit h = both (has_room contents g) (list_all (has_room contents) (fixups_of qs)) (room contents g q qs byte same fit) h

pub rooms : (contents : List Content) (qs : List Put) (p o : ℕ) → SameBytes contents qs p o → rises p o qs ≡ true → AllFit qs → list_all (has_room contents) (fixups_of qs) ≡ true
unfolding fixups_of
rooms contents [] p o same rising fit = refl
rooms contents (q ∷ qs) p o same rising fit =
    let parts = and_parts (is_from p o q.piece q.offset) (rises q.piece (q.offset + 1) qs) rising in
    let rest : SameBytes contents qs q.piece (q.offset + 1) = bytes_after contents q qs p o parts.0 same in
    one_room contents q qs (first_byte contents q qs p o parts.0 same) rest q.fixup fit.0 (rooms contents qs q.piece (q.offset + 1) rest parts.1 fit.1)

-- ---- one at a place

none_at : (qs : List Put) (q r p o : ℕ) → rises q (r + 1) qs ≡ true → (eqb q p && eqb r o) ≡ true → look own_fixup qs p o ≡ None
none_at qs q r p o h k =
    let one : q ≡ p = grind (arith, nat_tests) in
    let two : r ≡ o = grind (arith, nat_tests) in
    below qs q (r + 1) p o h (rw (one, two) (not_from p o))
  where
    not_from : (p o : ℕ) → is_from p (o + 1) p o ≡ false
    not_from p o = grind (arith, nat_tests)

    not_later : (a b c d p o : ℕ) → is_from a b c d ≡ true → is_from a b p o ≡ false → is_from c (d + 1) p o ≡ false
    not_later a b c d p o h k = grind (arith, nat_tests)

    elsewhere : (a b c d p o : ℕ) → is_from a b c d ≡ true → is_from a b p o ≡ false → (eqb c p && eqb d o) ≡ false
    elsewhere a b c d p o h k = grind (arith, nat_tests)

    below : (qs : List Put) (a b p o : ℕ) → rises a b qs ≡ true → is_from a b p o ≡ false → look own_fixup qs p o ≡ None
    below [] a b p o h k = refl
    below (x ∷ xs) a b p o h k =
        let parts = and_parts (is_from a b x.piece x.offset) (rises x.piece (x.offset + 1) xs) h in
        rw (elsewhere a b x.piece x.offset p o parts.0 k) (below xs x.piece (x.offset + 1) p o parts.1 (not_later a b x.piece x.offset p o parts.0 k))

module _ (q : Put) (qs : List Put) (p o : ℕ) (rising : rises q.piece (q.offset + 1) qs ≡ true) (rest : fixup_at (fixups_of qs) p o ≡ look own_fixup qs p o) where
  by_place : (t : Bool) → is_at q p o ≡ t → fixup_at (fixups_of qs) p o ≡ (if t then None else look own_fixup qs p o)
  by_place true e = rest ∙ none_at qs q.piece q.offset p o rising e
  by_place false e = rest

  one_at : (g : Option Fixup) → Fits g q qs → fixup_at (listed g ++ fixups_of qs) p o ≡ (if is_at q p o then g else look own_fixup qs p o)
  unfolding fixup_at
  one_at None fit = by_place (is_at q p o) refl
  one_at (Some g) fit =
      let first : g.piece ≡ q.piece = fit.0 in
      let second : g.offset ≡ q.offset = fit.1 in
      let test : (eqb g.piece p && eqb g.offset o) ≡ is_at q p o = (λ i. eqb (first i) p && eqb (second i) o) in
      (λ i. if test i then Some g else rest i)

pub fixups_at : (qs : List Put) (a b p o : ℕ) → rises a b qs ≡ true → AllFit qs → fixup_at (fixups_of qs) p o ≡ look own_fixup qs p o
unfolding fixup_at fixups_of
fixups_at [] a b p o rising fit = refl
fixups_at (q ∷ qs) a b p o rising fit =
    let parts = and_parts (is_from a b q.piece q.offset) (rises q.piece (q.offset + 1) qs) rising in
    one_at q qs p o parts.1 (fixups_at qs q.piece (q.offset + 1) p o parts.1 fit.1) q.fixup fit.0

-- ---- each is sound

pub all_listed : (test : Fixup → Bool) (qs : List Put) → list_all (λ q. list_all test (listed q.fixup)) qs ≡ true → list_all test (fixups_of qs) ≡ true
unfolding fixups_of
all_listed test [] h = refl
all_listed test (q ∷ qs) h =
    let parts = and_parts (list_all test (listed q.fixup)) (list_all (λ q. list_all test (listed q.fixup)) qs) h in
    step q.fixup parts.0 (all_listed test qs parts.1)
  where
    step : (g : Option Fixup) → list_all test (listed g) ≡ true → list_all test (fixups_of qs) ≡ true → list_all test (listed g ++ fixups_of qs) ≡ true
    step None h k = k
    step (Some g) h k = both (test g) (list_all test (fixups_of qs)) (and_parts (test g) true h).0 k

-- Relocations in order are given by what stands at each place, and public names by rising name by what they are.
use Rattle.std.proofs.Common.{◌≡◌, ℕ, ◌+◌, ◌<◌, Bool, true, false, ◌&&◌, ◌||◌, eqb, ltb, leb, if◌then◌else◌, Option, Some, None, List, [], ◌∷◌, length, get_or, suc, zero, refl, sym, subst, ◌∙◌, ◌⊎◌, inl, inr, arith}
use Rattle.std.specs.List.{Contains}
use Rattle.std.specs.List.Sorted.{IsPermutation}
use Rattle.std.proofs.lemmas.Bool.{and_parts}
use Rattle.std.proofs.lemmas.Bool.Decides.{nat_tests}
use Rattle.std.proofs.lemmas.List.Sorted.{IsPermutation-trans, IsPermutation-sym, Contains-permutation}
use Rattle.kc_obj_module.specs.declared.parts.Fixup.{Fixup}
use Rattle.kc_obj_module.specs.declared.parts.Given.{Given}
use Rattle.kc_obj_module.specs.Names.{is_below}
use Rattle.kc_obj_module.specs.Contents.{is_from}
use Rattle.kc_obj_module.specs.Numbers.{width}
use Rattle.kc_obj_module.specs.Fixups.{fixup_at, fixup_follows, fixups_in_order}
use Rattle.kc_obj_module.specs.Rules.{publics_in_order}
use Rattle.kc_obj_module.proofs.RoomLemmas.{rest_in_order}

-- ---- relocations

abbrev start_from : ℕ → ℕ → List Fixup → Bool
start_from piece offset [] = true
start_from piece offset (f ∷ fs) = is_from piece offset f.piece f.offset

some_width : (kind : ℕ) → 0 < width kind
some_width kind = by (eqb kind 1 || eqb kind 2) (width kind) refl
  where
    by : (t : Bool) (n : ℕ) → n ≡ (if t then 1 else 2) → 0 < n
    by true n e = omega arith
    by false n e = omega arith

next_from : (p o w q r : ℕ) → 0 < w → (ltb p q || (eqb p q && leb (o + w) r)) ≡ true → (ltb p q || (eqb p q && leb (o + 1) r)) ≡ true
next_from p o w q r lt h = grind (arith, nat_tests)

rest_from : (f : Fixup) (fs : List Fixup) → fixups_in_order (f ∷ fs) ≡ true → start_from f.piece (f.offset + 1) fs ≡ true
unfolding fixups_in_order
rest_from f [] h = refl
rest_from f (g ∷ fs) h = next_from f.piece f.offset (width f.kind) g.piece g.offset (some_width f.kind) (and_parts (fixup_follows f g) (fixups_in_order (g ∷ fs)) h).0

before_first : (a b q r p o : ℕ) → is_from a b q r ≡ true → is_from a b p o ≡ false → (eqb q p && eqb r o) ≡ false
before_first a b q r p o h k = grind (arith, nat_tests)

before_rest : (a b q r p o : ℕ) → is_from a b q r ≡ true → is_from a b p o ≡ false → is_from q (r + 1) p o ≡ false
before_rest a b q r p o h k = grind (arith, nat_tests)

none_before : (fs : List Fixup) (a b p o : ℕ) → fixups_in_order fs ≡ true → start_from a b fs ≡ true → is_from a b p o ≡ false → fixup_at fs p o ≡ None
unfolding fixup_at
none_before [] a b p o ordered start h = refl
none_before (f ∷ fs) a b p o ordered start h =
    rw (before_first a b f.piece f.offset p o start h) (none_before fs f.piece (f.offset + 1) p o (rest_in_order f fs ordered) (rest_from f fs ordered) (before_rest a b f.piece f.offset p o start h))

abbrev Same : List Fixup → List Fixup → Type 0
Same fs gs = (p o : ℕ) → fixup_at fs p o ≡ fixup_at gs p o

at_self : (p o : ℕ) → (eqb p p && eqb o o) ≡ true
at_self p o = grind (arith, nat_tests)

first_there : (f : Fixup) (fs : List Fixup) → fixup_at (f ∷ fs) f.piece f.offset ≡ Some f
unfolding fixup_at
first_there f fs = rw (at_self f.piece f.offset) refl

self_from : (p o : ℕ) → is_from p o p o ≡ true
self_from p o = grind (arith, nat_tests)

decided : (b : Bool) → (b ≡ false → ⊥) → b ≡ true
decided true h = refl
decided false h = absurd (h refl)

some_none : (f : Fixup) (x : Option Fixup) → x ≡ Some f → x ≡ None → ⊥
some_none f x h k = cc

starts_later : (f g : Fixup) (fs gs : List Fixup) → fixups_in_order (g ∷ gs) ≡ true → Same (f ∷ fs) (g ∷ gs) → is_from g.piece g.offset f.piece f.offset ≡ true
starts_later f g fs gs ordered same =
    decided (is_from g.piece g.offset f.piece f.offset) (λ before. some_none f (fixup_at (g ∷ gs) f.piece f.offset) (sym (same f.piece f.offset) ∙ first_there f fs) (none_before (g ∷ gs) g.piece g.offset f.piece f.offset ordered (self_from g.piece g.offset) before))

one_start : (p o q r : ℕ) → is_from p o q r ≡ true → is_from q r p o ≡ true → (p ≡ q) × (o ≡ r)
one_start p o q r h k = (grind (arith, nat_tests), grind (arith, nat_tests))

first_same : (f g : Fixup) (fs gs : List Fixup) → fixups_in_order (f ∷ fs) ≡ true → fixups_in_order (g ∷ gs) ≡ true → Same (f ∷ fs) (g ∷ gs) → f ≡ g
first_same f g fs gs ordered other same =
    let start : (f.piece ≡ g.piece) × (f.offset ≡ g.offset) = one_start f.piece f.offset g.piece g.offset (starts_later g f gs fs ordered (λ p o. sym (same p o))) (starts_later f g fs gs other same) in
    let there : fixup_at (g ∷ gs) f.piece f.offset ≡ Some f = sym (same f.piece f.offset) ∙ first_there f fs in
    let moved : fixup_at (g ∷ gs) g.piece g.offset ≡ Some f = (λ i. fixup_at (g ∷ gs) (sym start.0 i) (sym start.1 i)) ∙ there in
    inside f g (sym moved ∙ first_there g gs)
  where
    inside : (f g : Fixup) → Some f ≡ Some g → f ≡ g
    inside f g h = cc

rest_there : (f : Fixup) (fs : List Fixup) (p o : ℕ) → (eqb f.piece p && eqb f.offset o) ≡ false → fixup_at (f ∷ fs) p o ≡ fixup_at fs p o
unfolding fixup_at
rest_there f fs p o h = rw h refl

past : (q r p o : ℕ) → (eqb q p && eqb r o) ≡ true → is_from q (r + 1) p o ≡ false
past q r p o h = grind (arith, nat_tests)

rest_none : (f : Fixup) (fs : List Fixup) (p o : ℕ) → fixups_in_order (f ∷ fs) ≡ true → (eqb f.piece p && eqb f.offset o) ≡ true → fixup_at fs p o ≡ None
rest_none f fs p o ordered h = none_before fs f.piece (f.offset + 1) p o (rest_in_order f fs ordered) (rest_from f fs ordered) (past f.piece f.offset p o h)

same_rest : (f g : Fixup) (fs gs : List Fixup) → f ≡ g → fixups_in_order (f ∷ fs) ≡ true → fixups_in_order (g ∷ gs) ≡ true → Same (f ∷ fs) (g ∷ gs) → Same fs gs
same_rest f g fs gs e ordered other same p o = by (eqb f.piece p && eqb f.offset o) refl
  where
    by : (t : Bool) → (eqb f.piece p && eqb f.offset o) ≡ t → fixup_at fs p o ≡ fixup_at gs p o
    by true h = rest_none f fs p o ordered h ∙ sym (rest_none g gs p o other (subst (λ (x : Fixup). (eqb x.piece p && eqb x.offset o) ≡ true) e h))
    by false h = sym (rest_there f fs p o h) ∙ same p o ∙ rest_there g gs p o (subst (λ (x : Fixup). (eqb x.piece p && eqb x.offset o) ≡ false) e h)

nowhere : (p o : ℕ) → fixup_at [] p o ≡ None
unfolding fixup_at
nowhere p o = refl

pub one_fixups : (fs gs : List Fixup) → fixups_in_order fs ≡ true → fixups_in_order gs ≡ true → ((p o : ℕ) → fixup_at fs p o ≡ fixup_at gs p o) → fs ≡ gs
one_fixups [] [] a b same = refl
one_fixups [] (g ∷ gs) a b same = absurd (some_none g (fixup_at [] g.piece g.offset) (same g.piece g.offset ∙ first_there g gs) (nowhere g.piece g.offset))
one_fixups (f ∷ fs) [] a b same = absurd (some_none f (fixup_at [] f.piece f.offset) (sym (same f.piece f.offset) ∙ first_there f fs) (nowhere f.piece f.offset))
one_fixups (f ∷ fs) (g ∷ gs) ordered other same =
    let first : f ≡ g = first_same f g fs gs ordered other same in
    let rest : fs ≡ gs = one_fixups fs gs (rest_in_order f fs ordered) (rest_in_order g gs other) (same_rest f g fs gs first ordered other same) in
    (λ i. first i ∷ rest i)

-- ---- public names

name_step : (x y z : ℕ) (p q r : Bool) → (ltb x y || (eqb x y && p)) ≡ true → (ltb y z || (eqb y z && q)) ≡ true → (p ≡ true → q ≡ true → r ≡ true) → (ltb x z || (eqb x z && r)) ≡ true
name_step x y z true true true h k f = grind (arith, nat_tests)
name_step x y z true true false h k f = absurd (cc (f refl refl))
name_step x y z true false r h k f = grind (arith, nat_tests)
name_step x y z false q r h k f = grind (arith, nat_tests)

below_trans : (a b c : List ℕ) → is_below a b ≡ true → is_below b c ≡ true → is_below a c ≡ true
unfolding is_below
below_trans [] [] c h k = absurd (cc)
below_trans [] (y ∷ ys) [] h k = absurd (cc)
below_trans [] (y ∷ ys) (z ∷ zs) h k = refl
below_trans (x ∷ xs) [] c h k = absurd (cc)
below_trans (x ∷ xs) (y ∷ ys) [] h k = absurd (cc)
below_trans (x ∷ xs) (y ∷ ys) (z ∷ zs) h k = name_step x y z (is_below xs ys) (is_below ys zs) (is_below xs zs) h k (below_trans xs ys zs)

not_self : (x : ℕ) (p : Bool) → p ≡ false → (ltb x x || (eqb x x && p)) ≡ false
not_self x p h = grind (arith, nat_tests)

below_self : (a : List ℕ) → is_below a a ≡ false
unfolding is_below
below_self [] = refl
below_self (x ∷ xs) = not_self x (is_below xs xs) (below_self xs)

abbrev In : Given → List Given → Type 0
In x [] = ⊥
In x (y ∷ ys) = (y ≡ x) ⊎ In x ys

in_from : (xs : List Given) (x : Given) (k : ℕ) → k < length xs → get_or xs k x ≡ x → In x xs
in_from [] x k lt h = absurd (omega arith)
in_from (y ∷ ys) x zero lt h = inl h
in_from (y ∷ ys) x (suc k) lt h = inr (in_from ys x k (omega arith) h)

contains_later : (y : Given) (ys : List Given) (x : Given) → Contains ys x → Contains (y ∷ ys) x
contains_later y ys x h = (suc h.0, omega (arith, h.1), h.2)

contains_from : (xs : List Given) (x : Given) → In x xs → Contains xs x
contains_from [] x h = absurd h
contains_from (y ∷ ys) x h = elim h [ inl e ↦ (zero, omega arith, e) | inr k ↦ contains_later y ys x (contains_from ys x k) ]

abbrev Sub : List Given → List Given → Type 0
Sub xs ys = (x : Given) → In x xs → In x ys

sub_from : (xs ys : List Given) → IsPermutation xs ys → Sub xs ys
sub_from xs ys same x h = let there = Contains-permutation xs ys x same (contains_from xs x h) in in_from ys x there.0 there.1 there.2

rest_sorted : (g : Given) (gs : List Given) → publics_in_order (g ∷ gs) ≡ true → publics_in_order gs ≡ true
unfolding publics_in_order
rest_sorted g [] h = refl
rest_sorted g (x ∷ gs) h = (and_parts (is_below g.name x.name) (publics_in_order (x ∷ gs)) h).1

first_below : (g x : Given) (gs : List Given) → publics_in_order (g ∷ x ∷ gs) ≡ true → is_below g.name x.name ≡ true
unfolding publics_in_order
first_below g x gs h = (and_parts (is_below g.name x.name) (publics_in_order (x ∷ gs)) h).0

all_below : (g : Given) (gs : List Given) → publics_in_order (g ∷ gs) ≡ true → (x : Given) → In x gs → is_below g.name x.name ≡ true
all_below g [] h x there = absurd there
all_below g (y ∷ ys) h x there =
    let one : is_below g.name y.name ≡ true = first_below g y ys h in
    elim there [ inl e ↦ subst (λ (z : Given). is_below g.name z.name ≡ true) e one | inr k ↦ below_trans g.name y.name x.name one (all_below y ys (rest_sorted g (y ∷ ys) h) x k) ]

no_loop : (a b : List ℕ) → is_below a b ≡ true → is_below b a ≡ true → ⊥
no_loop a b h k = different (below_trans a b a h k) (below_self a)
  where
    different : is_below a a ≡ true → is_below a a ≡ false → ⊥
    different h k = cc

heads : (y z : Given) (ys zs : List Given) → publics_in_order (y ∷ ys) ≡ true → publics_in_order (z ∷ zs) ≡ true → Sub (y ∷ ys) (z ∷ zs) → Sub (z ∷ zs) (y ∷ ys) → y ≡ z
heads y z ys zs a b f g =
    elim (f y (inl refl)) [
      | inl e ↦ sym e
      | inr k ↦ elim (g z (inl refl)) [ inl e ↦ e | inr l ↦ absurd (no_loop y.name z.name (all_below y ys a z l) (all_below z zs b y k)) ]
    ]

rest_sub : (y z : Given) (ys zs : List Given) → publics_in_order (y ∷ ys) ≡ true → y ≡ z → Sub (y ∷ ys) (z ∷ zs) → Sub ys zs
rest_sub y z ys zs a e f x h =
    elim (f x (inr h)) [
      | inl same ↦ absurd (itself (subst (λ (w : Given). is_below y.name w.name ≡ true) (sym (e ∙ same)) (all_below y ys a x h)))
      | inr k ↦ k
    ]
  where
    itself : is_below y.name y.name ≡ true → ⊥
    itself h = different h (below_self y.name)
      where
        different : is_below y.name y.name ≡ true → is_below y.name y.name ≡ false → ⊥
        different h k = cc

same_publics : (ys zs : List Given) → publics_in_order ys ≡ true → publics_in_order zs ≡ true → Sub ys zs → Sub zs ys → ys ≡ zs
same_publics [] [] a b f g = refl
same_publics [] (z ∷ zs) a b f g = absurd (g z (inl refl))
same_publics (y ∷ ys) [] a b f g = absurd (f y (inl refl))
same_publics (y ∷ ys) (z ∷ zs) a b f g =
    let first : y ≡ z = heads y z ys zs a b f g in
    let rest : ys ≡ zs = same_publics ys zs (rest_sorted y ys a) (rest_sorted z zs b) (rest_sub y z ys zs a first f) (rest_sub z y zs ys b (sym first) g) in
    (λ i. first i ∷ rest i)

pub one_publics : (xs ys zs : List Given) → IsPermutation xs ys → IsPermutation xs zs → publics_in_order ys ≡ true → publics_in_order zs ≡ true → ys ≡ zs
one_publics xs ys zs p q a b =
    let over : IsPermutation ys zs = IsPermutation-trans ys xs zs (IsPermutation-sym xs ys p) q in
    same_publics ys zs a b (sub_from ys zs over) (sub_from zs ys (IsPermutation-sym ys zs over))

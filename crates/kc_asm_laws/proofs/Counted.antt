-- Each relocatable byte of a part of an unlinked module is shown by one statement.
use Rattle.std.proofs.Common.{◌≡◌, ℕ, zero, suc, ◌+◌, ◌-◌, ◌<◌, ◌≤◌, Bool, true, false, ◌&&◌, ◌||◌, ◌==◌, cond, leb, ltb, List, [], ◌∷◌, ◌++◌, set, length, ◌⊎◌, inl, inr, refl, sym, ap, ◌∙◌, subst, arith}
use Rattle.std.specs.Prelude.{Option, Some, None, nat_lt, if◌then◌else◌, is_some, unwrap_or, slice_get, slice_set}
use Rattle.std.specs.List.{AllByRecursion}
use Rattle.std.proofs.lemmas.Bool.{eqb-true}
use Rattle.std.proofs.lemmas.Bool.Decides.{nat_tests}
use Rattle.kc_obj_module.specs.declared.parts.SegKind.{SegKind}
use Rattle.kc_obj_module.specs.Object.{Object}
use Rattle.kc_obj_module.specs.Contents.{content_at}
use Rattle.kc_asm_symbols.specs.declared.segments.Segment.{Segment}
use Rattle.kc_asm_symbols.specs.Located.{Located}
use Rattle.kc_asm_symbols.specs.Meanings.{meaning}
use Rattle.kc_asm_section.specs.Section.{Section, is_section, blank, relocatable_byte_at}
use Rattle.kc_asm_section.specs.Writing.{WrittenStands, PutStands}
use Rattle.kc_asm_section.specs.Order.{start_of}
use Rattle.kc_asm_emit.specs.Content.{content}
use Rattle.kc_asm_layout.specs.StatementSizes.{opens}
use Rattle.kc_asm_layout.specs.declared.location.Location.{Location}
use Rattle.kc_asm_check.specs.Codes.{Regions, regions_after, stack_after}
use Rattle.kc_asm_unlinked_laws.specs.Collecting.{led, section_after, kind_opened, with_opened, first_section, parts_after, parts_from, first_parts}
use Rattle.kc_asm_unlinked_laws.specs.Writable.{HasRoom}
use Rattle.kc_asm_unlinked_laws.proofs.Lists.{same_element, prefix_at, set_itself, all_at}
use Rattle.kc_asm_unlinked_laws.proofs.Taping.{size_at, led_extends, put_extends, led_stays}
use Rattle.kc_asm_unlinked_laws.proofs.Standing.{IsOwn, Fits}
use Rattle.kc_asm_unlinked_laws.proofs.Walking.{IsStep, AllSteps}
use Rattle.kc_asm_unlinked_laws.proofs.Room.{step_fits}
use Rattle.kc_asm_unlinked_laws.proofs.Keeping.{parts_kept, first_kept}
use Rattle.kc_asm_list.specs.declared.spot.Spot.{Spot}
use Rattle.kc_asm_laws.specs.Shown.{is_among, shows}
use Rattle.kc_asm_laws.proofs.Pieces.{number_in, IsOwnKind, suc_alike}
use Rattle.kc_asm_laws.proofs.ListSections.{Grown, led_grown, put_grown, beyond}

-- ---- places in a stretch

among_before : (place from count : ℕ) → place < from → is_among place from count ≡ false
among_before place from count lt = grind (arith, nat_tests, lt)

among_behind : (place from count : ℕ) → from + count ≤ place → is_among place from count ≡ false
among_behind place from count le = grind (arith, nat_tests, le)

among_within : (place from count : ℕ) → from ≤ place → place < from + count → is_among place from count ≡ true
among_within place from count le lt = grind (arith, nat_tests, le, lt)

some_of : (b : Bool) (n : ℕ) → (if b then n else 0) ≤ n
some_of true n = omega arith
some_of false n = omega arith

false_behind : (b : Bool) → (b && false) ≡ false
false_behind true = refl
false_behind false = refl

true_behind : (b : Bool) → (b || true) ≡ true
true_behind true = refl
true_behind false = refl

-- a statement whose stretch goes from one offset over a gap to another one shows the relocatable byte at an offset of it, where each of
-- its two stretches with a relocatable byte begins with one
module _ (start size gap count o before place after : ℕ) (a b : Bool)
    (begins : before ≡ start + size) (stands : place ≡ start + (size + gap)) (ends : after ≡ start + ((size + gap) + count))
    (filled : size ≤ o → o < size + gap → a ≡ true) (written : size + gap ≤ o → o < (size + gap) + count → b ≡ true) where
  abbrev reported : Bool
  reported = nat_lt before after && (is_among (start + o) before (if a then place - before else 0) || is_among (start + o) place (if b then after - place else 0))

  reported_is : reported ≡ (leb size o && ltb o ((size + gap) + count))
  reported_is = by (leb size o) refl (ltb o (size + gap)) refl (ltb o ((size + gap) + count)) refl
    where
      none_reported : is_among (start + o) before (if a then place - before else 0) ≡ false → is_among (start + o) place (if b then after - place else 0) ≡ false → reported ≡ false
      none_reported e f = ap (λ (c : Bool). nat_lt before after && (c || is_among (start + o) place (if b then after - place else 0))) e ∙ ap (λ (c : Bool). nat_lt before after && c) f ∙ false_behind (nat_lt before after)

      by : (p : Bool) → leb size o ≡ p → (q : Bool) → ltb o (size + gap) ≡ q → (r : Bool) → ltb o ((size + gap) + count) ≡ r → reported ≡ (p && r)
      by false p q e r f =
          let lt : o < size = grind (arith, nat_tests, p) in
          none_reported (among_before (start + o) before _ (omega (arith, lt, begins))) (among_before (start + o) place _ (omega (arith, lt, stands)))
      by true p true e true f =
          let le : size ≤ o = grind (arith, nat_tests, p) in
          let lt : o < size + gap = grind (arith, nat_tests, e) in
          let full : a ≡ true = filled le lt in
          let wide : nat_lt before after ≡ true = (let less : before < after = omega (arith, begins, ends, le, lt) in grind (arith, nat_tests, less)) in
          let there : is_among (start + o) before (place - before) ≡ true = among_within (start + o) before (place - before) (omega (arith, le, begins)) (omega (arith, lt, begins, stands)) in
          rw (full, wide, there) refl
      by true p true e false f =
          let lt : o < size + gap = grind (arith, nat_tests, e) in
          let ge : (size + gap) + count ≤ o = grind (arith, nat_tests, f) in
          absurd (omega (arith, lt, ge))
      by true p false e true f =
          let le : size + gap ≤ o = grind (arith, nat_tests, e) in
          let lt : o < (size + gap) + count = grind (arith, nat_tests, f) in
          let full : b ≡ true = written le lt in
          let wide : nat_lt before after ≡ true = (let less : before < after = omega (arith, begins, ends, le, lt) in grind (arith, nat_tests, less)) in
          let there : is_among (start + o) place (after - place) ≡ true = among_within (start + o) place (after - place) (omega (arith, le, stands)) (omega (arith, lt, stands, ends)) in
          rw (full, wide, there) (true_behind (is_among (start + o) before (if a then place - before else 0)))
      by true p false e false f =
          let le : (size + gap) + count ≤ o = grind (arith, nat_tests, f) in
          none_reported (among_behind (start + o) before _ (omega (arith, le, begins, stands, some_of a (place - before))))
          (among_behind (start + o) place _ (omega (arith, le, stands, ends, some_of b (after - place))))

-- ---- parts

other_set : (xs : List Section) (i : ℕ) (y : Section) (p : ℕ) → (i == p) ≡ false → slice_get (set xs i y) p ≡ slice_get xs p
other_set [] i y p e = refl
other_set (x ∷ xs) zero y zero e = absurd (cc e)
other_set (x ∷ xs) zero y (suc p) e = refl
other_set (x ∷ xs) (suc i) y zero e = refl
other_set (x ∷ xs) (suc i) y (suc p) e = other_set xs i y p (sym (suc_alike i p) ∙ e)

-- what stands in a part is the same, or it was opened
abbrev IsFresh : Option Section → Option Section → Type 0
IsFresh a b = (b ≡ a) ⊎ ((a ≡ None) × ((t : Section) → b ≡ Some t → t.length ≡ 0))

pushed : (xs : List Section) (y : Section) (p : ℕ) → y.length ≡ 0 → IsFresh (slice_get xs p) (slice_get (xs ++ y ∷ []) p)
pushed [] y zero e = inr (refl, λ t f. ap (λ (u : Section). u.length) (sym (same_element y t f)) ∙ e)
pushed [] y (suc p) e = inl refl
pushed (x ∷ xs) y zero e = inl refl
pushed (x ∷ xs) y (suc p) e = pushed xs y p e

opened_fresh : (kind : SegKind) (at : Option ℕ) (xs : List Section) (p : ℕ) → IsFresh (slice_get xs p) (slice_get (with_opened kind at xs) p)
opened_fresh kind None xs p = inl refl
opened_fresh kind (Some address) xs p = pushed xs (blank kind (Some address)) p refl

opened_stays : (kind : SegKind) (at : Option ℕ) (xs : List Section) (p : ℕ) (t : Section) → slice_get xs p ≡ Some t → slice_get (with_opened kind at xs) p ≡ Some t
opened_stays kind None xs p t e = e
opened_stays kind (Some address) xs p t e = prefix_at xs (blank kind (Some address) ∷ []) p t e

-- ---- a statement with its segment and its location, as far as bytes depend on it

abbrev pub spot_with : Segment → Location → Spot
spot_with g s = record { line = 0; depth = 0; labelled = false; kind = g.kind; piece = g.piece; at = s.address; before = s.before; place = s.place; after = s.after }

unfoldable pub count_seen : (Segment → Location → Bool) → List Located → List Location → ℕ
count_seen f [] ss = 0
count_seen f (l ∷ ls) [] = 0
count_seen f (l ∷ ls) (s ∷ ss) = cond (f l.segment s) 1 0 + count_seen f ls ss

-- what a part had stays, as it goes on to its last relocatable byte
record IsOld (last t : Section) : Type 0 where
  at : last.at ≡ t.at
  size : t.length ≤ last.length
  old : (i : ℕ) → i < t.length → relocatable_byte_at last i ≡ relocatable_byte_at t i

abbrev Older : Section → Option Section → Type 0
Older last None = Unit {0}
Older last (Some t) = IsOld last t

abbrev length_of : Option Section → ℕ
length_of None = 0
length_of (Some t) = t.length

-- the relocatable byte at an offset is shown once, by the statements from one on, where it is not there yet
abbrev IsCounted : Section → ℕ → Option Section → ℕ → Type 0
IsCounted last o now n = Older last now × (n ≡ cond (ltb o (length_of now)) 0 1)

own_kind : (piece : ℕ) (kind : SegKind) (at : Option ℕ) → IsOwn piece kind at → IsOwnKind piece kind
own_kind piece kind None h lt = sym h.0
own_kind piece kind (Some address) h lt = absurd (omega (arith, h, lt))

start_is : (at : Option ℕ) → unwrap_or at 0 ≡ start_of at
start_is None = refl
start_is (Some a) = refl

same_test : (x y : ℕ) (r : ℕ → Bool) (b c : Bool) → (x == y) ≡ b → (b ≡ true → r y ≡ c) → ((x == y) && r x) ≡ (b && c)
same_test x y r true c e f = (λ i. e i && r (eqb-true x y e i)) ∙ f refl
same_test x y r false c e f = ap (λ (b : Bool). b && r x) e

none_more : (n : ℕ) → 0 + n ≡ n
none_more n = omega arith

abbrev pub Anything : Section → Type 0
Anything t = Unit {0}

abbrev Sections : List Section → Type 0
Sections parts = AllByRecursion (λ t. (is_section t ≡ true) × Anything t) parts

counts : (size later o : ℕ) → size ≤ later → cond (leb size o && ltb o later) 1 0 + cond (ltb o later) 0 1 ≡ cond (ltb o size) 0 1
counts size later o le = by (leb size o) refl (ltb o later) refl (ltb o size) refl
  where
    by : (a : Bool) → leb size o ≡ a → (b : Bool) → ltb o later ≡ b → (c : Bool) → ltb o size ≡ c → cond (a && b) 1 0 + cond b 0 1 ≡ cond c 0 1
    by true e true f true g = absurd (grind (arith, nat_tests, e, g))
    by true e true f false g = refl
    by true e false f true g = absurd (grind (arith, nat_tests, e, g))
    by true e false f false g = refl
    by false e true f true g = refl
    by false e true f false g = absurd (grind (arith, nat_tests, e, g))
    by false e false f true g = absurd (grind (arith, nat_tests, f, g, le))
    by false e false f false g = absurd (grind (arith, nat_tests, e, g))

module _ (written_stands : WrittenStands) (put_stands : PutStands) (m : Object) (piece o part : ℕ) (last : Section) (there : is_some (relocatable_byte_at last o) ≡ true)
    (holds : (k : ℕ) → is_some (content_at m.contents piece k) ≡ is_some (relocatable_byte_at last k))
    (alone : (p : ℕ) (kind : SegKind) → IsOwnKind p kind → (number_in p kind m.segments == piece) ≡ (p == part)) where
  abbrev pub seen : Segment → Location → Bool
  seen g s = shows m piece o (spot_with g s)

  -- what the rows of a statement show of a piece with this number
  abbrev shown_in : Location → ℕ → Bool
  shown_in s k =
      nat_lt s.before s.after
      && (is_among (unwrap_or s.address 0 + o) s.before (if is_some (content_at m.contents k (s.before - unwrap_or s.address 0)) then s.place - s.before else 0)
      || is_among (unwrap_or s.address 0 + o) s.place (if is_some (content_at m.contents k (s.place - unwrap_or s.address 0)) then s.after - s.place else 0))

  -- ---- one statement

  module _ (all before : List Located) (regions : Regions) (sum : ℕ) (l : Located) (s : Location) (parts : List Section) (h : IsStep all before regions sum l s parts) (sections : Sections parts) where
    abbrev t : Section
    t = h.t

    abbrev u : Section
    u = led l.segment.kind (s.place - s.before) t

    abbrev v : Section
    v = section_after (meaning all before l) l s t

    is_t : is_section t ≡ true
    is_t = (all_at (λ (x : Section). (is_section x ≡ true) × Anything x) parts l.segment.piece t h.part sections).0

    room : Fits (content (meaning all before l) s.form l.here l.action) s h.t
    room = step_fits all before regions sum l s parts h

    led_size : u.length ≡ t.length + (s.place - s.before)
    led_size = (led_extends l.segment.kind (s.place - s.before) t).size

    is_u : is_section u ≡ true
    is_u = (led_stays Anything (λ n x a. tt) (λ x code b a. tt) l.segment.kind (s.place - s.before) t h.stands.kind room.gap (is_t, tt)).0

    by_gap : (full : Bool) × Grown full t u
    by_gap = led_grown written_stands put_stands l.segment.kind (s.place - s.before) t is_t room.gap

    by_own : (full : Bool) × Grown full u v
    by_own = put_grown written_stands put_stands l.line l.segment.kind s.place (content (meaning all before l) s.form l.here l.action) u is_u
        (subst (λ (n : ℕ). HasRoom n (content (meaning all before l) s.form l.here l.action) s.place) (sym led_size) room.room)

    v_size : v.length ≡ (t.length + (s.place - s.before)) + size_at s.place (content (meaning all before l) s.form l.here l.action)
    v_size = (let e = (put_extends l.line l.segment.kind s.place (content (meaning all before l) s.form l.here l.action) u).size in omega (arith, e, led_size))

    v_at : v.at ≡ t.at
    v_at = (put_extends l.line l.segment.kind s.place (content (meaning all before l) s.form l.here l.action) u).at ∙ (led_extends l.segment.kind (s.place - s.before) t).at

    next_here : slice_get (parts_after (meaning all before l) l s parts) l.segment.piece ≡ Some v
    next_here =
        let look = meaning all before l in
        ap (λ (x : Option Section). slice_get (with_opened (kind_opened l.action) (opens look l.action) (slice_set parts l.segment.piece (section_after look l s (unwrap_or x first_section)))) l.segment.piece) h.part
        ∙ opened_stays (kind_opened l.action) (opens look l.action) (slice_set parts l.segment.piece v) l.segment.piece v (set_itself parts l.segment.piece t v h.part)

    next_other : (p : ℕ) → (l.segment.piece == p) ≡ false → IsFresh (slice_get parts p) (slice_get (parts_after (meaning all before l) l s parts) p)
    next_other p e =
        let look = meaning all before l in
        let w = section_after look l s (unwrap_or (slice_get parts l.segment.piece) first_section) in
        subst (λ (x : Option Section). IsFresh x (slice_get (parts_after look l s parts) p)) (other_set parts l.segment.piece w p e)
        (opened_fresh (kind_opened l.action) (opens look l.action) (slice_set parts l.segment.piece w) p)

    -- of the part in which the relocatable byte stands
    module _ (old : IsOld last v) where
      address : unwrap_or s.address 0 ≡ start_of t.at
      address = start_is s.address ∙ ap start_of h.stands.address

      shown_here : shown_in s piece ≡ (leb t.length o && ltb o v.length)
      shown_here =
          let start = start_of t.at in
          let gap = s.place - s.before in
          let count = size_at s.place (content (meaning all before l) s.form l.here l.action) in
          let begins : s.before ≡ start + t.length = sym h.stands.begins in
          let stands : s.place ≡ start + (t.length + gap) = omega (arith, begins, room.forward) in
          let ends : s.after ≡ start + ((t.length + gap) + count) = sym room.ends in
          (λ i. nat_lt s.before s.after
          && (is_among (address i + o) s.before (if is_some (content_at m.contents piece (s.before - address i)) then s.place - s.before else 0)
          || is_among (address i + o) s.place (if is_some (content_at m.contents piece (s.place - address i)) then s.after - s.place else 0)))
          ∙ reported_is start t.length gap count o s.before s.place s.after
          (is_some (content_at m.contents piece (s.before - start))) (is_some (content_at m.contents piece (s.place - start))) begins stands ends
          (λ le lt.
          let at : s.before - start ≡ t.length = omega (arith, begins) in
          let own : o < u.length = omega (arith, lt, led_size) in
          let first : t.length < u.length = omega (arith, le, own) in
          let full : by_gap.0 ≡ true = sym (by_gap.1.new o le own) ∙ ap is_some (sym (by_own.1.old o own)) ∙ ap is_some (sym (old.old o (omega (arith, own, by_own.1.size)))) ∙ there in
          holds (s.before - start) ∙ ap (λ (k : ℕ). is_some (relocatable_byte_at last k)) at ∙ ap is_some (old.old t.length (omega (arith, first, by_own.1.size)))
          ∙ ap is_some (by_own.1.old t.length first) ∙ by_gap.1.new t.length (omega arith) first ∙ full)
          (λ le lt.
          let at : s.place - start ≡ u.length = omega (arith, stands, led_size) in
          let own : o < v.length = omega (arith, lt, v_size) in
          let from : u.length ≤ o = omega (arith, le, led_size) in
          let first : u.length < v.length = omega (arith, from, own) in
          let full : by_own.0 ≡ true = sym (by_own.1.new o from own) ∙ ap is_some (sym (old.old o own)) ∙ there in
          holds (s.place - start) ∙ ap (λ (k : ℕ). is_some (relocatable_byte_at last k)) at ∙ ap is_some (old.old u.length first)
          ∙ by_own.1.new u.length (omega arith) first ∙ full)
          ∙ ap (λ (n : ℕ). leb t.length o && ltb o n) (sym v_size)

      then_old : IsOld last t
      then_old = record {
        at = old.at ∙ v_at;
        size = omega (arith, by_gap.1.size, by_own.1.size, old.size);
        old = λ i lt.
            old.old i (omega (arith, lt, by_gap.1.size, by_own.1.size)) ∙ by_own.1.old i (omega (arith, lt, by_gap.1.size)) ∙ by_gap.1.old i lt;
      }

    seen_is : (b : Bool) → (l.segment.piece == part) ≡ b → (c : Bool) → (b ≡ true → shown_in s piece ≡ c) → seen l.segment s ≡ (b && c)
    seen_is b e c f =
        let kind : IsOwnKind l.segment.piece l.segment.kind = subst (IsOwnKind l.segment.piece) h.stands.kind (own_kind l.segment.piece t.kind t.at h.stands.own) in
        same_test (number_in l.segment.piece l.segment.kind m.segments) piece (shown_in s) b c (alone l.segment.piece l.segment.kind kind ∙ e) f

    counted_on : (n : ℕ) → IsCounted last o (slice_get (parts_after (meaning all before l) l s parts) part) n
        → IsCounted last o (slice_get parts part) (cond (seen l.segment s) 1 0 + n)
    counted_on n h2 = by (l.segment.piece == part) refl
      where
        by : (b : Bool) → (l.segment.piece == part) ≡ b → IsCounted last o (slice_get parts part) (cond (seen l.segment s) 1 0 + n)
        by true e =
            let same : l.segment.piece ≡ part = eqb-true l.segment.piece part e in
            let after : slice_get (parts_after (meaning all before l) l s parts) part ≡ Some v = ap (slice_get (parts_after (meaning all before l) l s parts)) (sym same) ∙ next_here in
            let now : slice_get parts part ≡ Some t = ap (slice_get parts) (sym same) ∙ h.part in
            let later : IsCounted last o (Some v) n = subst (λ (x : Option Section). IsCounted last o x n) after h2 in
            let shown = seen_is true e (leb t.length o && ltb o v.length) (λ q. shown_here later.0) in
            subst (λ (x : Option Section). IsCounted last o x (cond (seen l.segment s) 1 0 + n)) (sym now)
            (then_old later.0, (λ i. cond (shown i) 1 0 + later.1 i) ∙ counts t.length v.length o (omega (arith, by_gap.1.size, by_own.1.size)))
        by false e = fresh (slice_get parts part) (slice_get (parts_after (meaning all before l) l s parts) part) (next_other part e) h2
          where
            not_seen : cond (seen l.segment s) 1 0 + n ≡ n
            not_seen = ap (λ (b : Bool). cond b 1 0 + n) (seen_is false e false (λ q. absurd (cc q))) ∙ none_more n

            none_yet : (now : Option Section) → ((x : Section) → now ≡ Some x → x.length ≡ 0) → length_of now ≡ 0
            none_yet None f = refl
            none_yet (Some x) f = f x refl

            fresh : (now after : Option Section) → IsFresh now after → IsCounted last o after n → IsCounted last o now (cond (seen l.segment s) 1 0 + n)
            fresh now after (inl f) k = subst (λ (x : Option Section). IsCounted last o x (cond (seen l.segment s) 1 0 + n)) f (k.0, not_seen ∙ k.1)
            fresh now after (inr f) k =
                subst (λ (x : Option Section). IsCounted last o x (cond (seen l.segment s) 1 0 + n)) (sym f.0)
                (tt, not_seen ∙ k.1 ∙ ap (λ (j : ℕ). cond (ltb o j) 0 1) (none_yet after f.1))

  -- ---- all statements

  counted : (all : List Located) (regions : Regions) (sum : ℕ) (before ls : List Located) (ss : List Location) (parts : List Section) → AllSteps all regions sum before ls ss parts → Sections parts
      → is_section last ≡ true → slice_get (parts_from all before ls ss parts) part ≡ Some last → IsCounted last o (slice_get parts part) (count_seen seen ls ss)
  unfolding AllSteps parts_from count_seen
  counted all regions sum before [] ss parts h sections is e =
      let inside : ltb o last.length ≡ true = below (ltb o last.length) refl in
      subst (λ (x : Option Section). IsCounted last o x 0) (sym e)
      (record { at = refl; size = omega arith; old = λ i lt. refl }, ap (λ (b : Bool). cond b 0 1) (sym inside))
    where
      below : (b : Bool) → ltb o last.length ≡ b → ltb o last.length ≡ true
      below true q = q
      below false q =
          let over : last.length ≤ o = grind (arith, nat_tests, q) in
          let none = beyond written_stands put_stands last is o over in
          absurd (cc (none, there))
  counted all regions sum before (l ∷ ls) [] parts h sections is e = absurd h
  counted all regions sum before (l ∷ ls) (s ∷ ss) parts h sections is e =
      let look = meaning all before l in
      let next = parts_after look l s parts in
      counted_on all before regions sum l s parts h.0 sections (count_seen seen ls ss)
      (counted all (regions_after look regions l.action) (stack_after look sum l.action) (l ∷ before) ls ss next h.1
      (parts_kept all Anything (λ kind at. tt) (λ n x a. tt) (λ x code b a. tt) (λ b rs x y z ps w a q os f. tt) before regions sum l s parts h.0 sections) is e)

  nothing_yet : (p : ℕ) → length_of (slice_get first_parts p) ≡ 0
  nothing_yet zero = refl
  nothing_yet (suc zero) = refl
  nothing_yet (suc (suc zero)) = refl
  nothing_yet (suc (suc (suc p))) = refl

  pub counted_once : (all : List Located) (regions : Regions) (ls : List Located) (ss : List Location) → AllSteps all regions 0 [] ls ss first_parts → is_section last ≡ true
      → slice_get (parts_from all [] ls ss first_parts) part ≡ Some last → count_seen seen ls ss ≡ 1
  counted_once all regions ls ss h is e =
      (counted all regions 0 [] ls ss first_parts h (first_kept Anything (λ kind at. tt)) is e).1 ∙ ap (λ (n : ℕ). cond {A = ℕ} (ltb o n) 0 1) (nothing_yet part) ∙ (let none : ltb o 0 ≡ false = grind (arith, nat_tests) in ap (λ (b : Bool). cond {A = ℕ} b 0 1) none)

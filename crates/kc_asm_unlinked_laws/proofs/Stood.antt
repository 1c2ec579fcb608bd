-- The relocatable bytes of statements stay where they were written, and nothing else is written but filling.
use Rattle.std.proofs.Common.{◌≡◌, ℕ, zero, suc, ◌+◌, ◌-◌, ◌%◌, Bool, true, false, cond, eqb, ltb, ◌⊎◌, inl, inr, List, [], ◌∷◌, ◌++◌, set, drop, get_or, replicate, reverse, length, length-append, refl, sym, ap, ◌∙◌, subst, append_assoc, append-nil, arith}
use Rattle.std.specs.Prelude.{Option, Some, None, unwrap_or, slice_get, slice_set}
use Rattle.std.specs.List.{AllByRecursion}
use Rattle.std.proofs.lemmas.Bool.Decides.{nat_tests}
use Rattle.std.proofs.lemmas.List.{length-reverse, reverse-reverse}
use Rattle.kc_obj_module.specs.declared.parts.SegKind.{SegKind}
use Rattle.kc_obj_module.specs.declared.parts.SegKind.TheVariants.{Reg, Code, Ram, Stack}
use Rattle.kc_asm_encode.specs.declared.relocatable_byte.RelocatableByte.{RelocatableByte}
use Rattle.kc_asm_encode.specs.declared.relocatable_byte.RelocatableByte.TheVariants.{Plain}
use Rattle.kc_asm_symbols.specs.Located.{Located}
use Rattle.kc_asm_symbols.specs.Meanings.{meaning}
use Rattle.kc_asm_section.specs.declared.part.PlacedByte.{PlacedByte}
use Rattle.kc_asm_section.specs.Section.{Section, is_section, blank, laid, written, skipped, placed_byte_at, relocatable_byte_at}
use Rattle.kc_asm_section.specs.Writing.{WrittenStands}
use Rattle.kc_asm_section.specs.Order.{start_of}
use Rattle.kc_asm_emit.specs.Arguments.{Look}
use Rattle.kc_asm_emit.specs.Content.{Content, Nothing, RelocatableBytes, Reserved, Upto, Even, content}
use Rattle.kc_asm_layout.specs.StatementSizes.{opens}
use Rattle.kc_asm_layout.specs.SizesLaws.{SizesStay, SizesHaveLengths}
use Rattle.kc_asm_layout.specs.declared.location.Location.{Location}
use Rattle.kc_asm_check.specs.Codes.{Regions, first_regions, regions_after, stack_after}
use Rattle.kc_asm_check.specs.Checking.{standing, location_list}
use Rattle.kc_asm_check.specs.Laws.{SoundStatements}
use Rattle.kc_asm_unlinked_laws.specs.Collecting.{led, put_content, section_after, kind_opened, with_opened, first_section, parts_after, parts_from, first_parts}
use Rattle.kc_asm_unlinked_laws.specs.Stood.{StandAt, StatementsStand, IsOfStatement, NothingElseStands}
use Rattle.kc_asm_unlinked_laws.proofs.Lists.{no_element, same_element, prefix_at, seam, set_itself, all_at}
use Rattle.kc_asm_unlinked_laws.proofs.Unreported.{reverse_prefix}
use Rattle.kc_asm_unlinked_laws.proofs.Taping.{laid_extends, led_extends, written_extends, led_stays}
use Rattle.kc_asm_unlinked_laws.proofs.Walking.{IsStep, AllSteps, walked}
use Rattle.kc_asm_unlinked_laws.proofs.Room.{step_fits}
use Rattle.kc_asm_unlinked_laws.proofs.Keeping.{parts_kept, first_kept}
use Rattle.kc_asm_unlinked_laws.proofs.RelocatableBytes.{numbered, laid_placed_bytes, written_placed_bytes}

-- ---- a piece grows

record Grows (t u : Section) : Type 0 where
  at : u.at ≡ t.at
  more : List PlacedByte
  placed_bytes : u.placed_bytes ≡ t.placed_bytes ++ more

as_it_was : (t : Section) → Grows t t
as_it_was t = record { at = refl; more = []; placed_bytes = sym (append-nil t.placed_bytes) }

grows_on : (t u v : Section) → Grows t u → Grows u v → Grows t v
grows_on t u v a b = record {
  at = b.at ∙ a.at;
  more = a.more ++ b.more;
  placed_bytes = b.placed_bytes ∙ ap (λ (cs : List PlacedByte). cs ++ b.more) a.placed_bytes ∙ append_assoc t.placed_bytes a.more b.more;
}

skipped_grows : (n : ℕ) (t : Section) → Grows t (skipped n t)
skipped_grows n t = record { at = refl; more = []; placed_bytes = sym (append-nil t.placed_bytes) }

led_grows : (kind : SegKind) (n : ℕ) (t : Section) → Grows t (led kind n t)
led_grows Code n t = record { at = (led_extends Code n t).at; more = numbered t.length (replicate n (Plain 255)); placed_bytes = laid_placed_bytes (replicate n (Plain 255)) t }
led_grows Reg n t = skipped_grows n t
led_grows Ram n t = skipped_grows n t
led_grows Stack n t = skipped_grows n t

put_grows : (line : ℕ) (kind : SegKind) (place : ℕ) (c : Content) (t : Section) → Grows t (put_content line kind place c t)
put_grows line kind place Nothing t = as_it_was t
put_grows line kind place (RelocatableBytes os) t = record { at = (written_extends line os t).at; more = numbered t.length os; placed_bytes = written_placed_bytes line os t }
put_grows line kind place (Reserved n) t = skipped_grows n t
put_grows line kind place (Upto to) t = skipped_grows (to - place) t
put_grows line kind place Even t = led_grows kind (place % 2) t

section_grows : (look : Look) (l : Located) (s : Location) (t : Section) → Grows t (section_after look l s t)
section_grows look l s t =
    let u = led l.segment.kind (s.place - s.before) t in
    grows_on t u (section_after look l s t) (led_grows l.segment.kind (s.place - s.before) t) (put_grows l.line l.segment.kind s.place (content look s.form l.here l.action) u)

stays_there : (cs ds : List PlacedByte) (i : ℕ) (o : RelocatableByte) → placed_byte_at cs i ≡ Some o → placed_byte_at (cs ++ ds) i ≡ Some o
unfolding placed_byte_at
stays_there [] ds i o e = absurd (no_element o e)
stays_there (c ∷ cs) ds i o e = by (eqb c.offset i) e (stays_there cs ds i o)
  where
    by : (b : Bool) → cond b (Some c.relocatable_byte) (placed_byte_at cs i) ≡ Some o → (placed_byte_at cs i ≡ Some o → placed_byte_at (cs ++ ds) i ≡ Some o) → cond b (Some c.relocatable_byte) (placed_byte_at (cs ++ ds) i) ≡ Some o
    by true e h = e
    by false e h = h e

-- ---- all pieces grow

abbrev AllGrow : List Section → List Section → Type 0
AllGrow ps qs = (p : ℕ) (t : Section) → slice_get ps p ≡ Some t → (u : Section) × ((slice_get qs p ≡ Some u) × Grows t u)

set_grows : (ps : List Section) (i : ℕ) (t u : Section) → slice_get ps i ≡ Some t → Grows t u → AllGrow ps (set ps i u)
set_grows [] i t u e g p v f = absurd (no_element v f)
set_grows (x ∷ ps) zero t u e g zero v f = (u, (refl, subst (λ (w : Section). Grows w u) (sym (same_element x t e) ∙ same_element x v f) g))
set_grows (x ∷ ps) zero t u e g (suc p) v f = (v, (f, as_it_was v))
set_grows (x ∷ ps) (suc i) t u e g zero v f = (v, (f, as_it_was v))
set_grows (x ∷ ps) (suc i) t u e g (suc p) v f = set_grows ps i t u e g p v f

opened_grow : (kind : SegKind) (o : Option ℕ) (ps : List Section) → AllGrow ps (with_opened kind o ps)
opened_grow kind None ps p t e = (t, (e, as_it_was t))
opened_grow kind (Some address) ps p t e = (t, (prefix_at ps (blank kind (Some address) ∷ []) p t e, as_it_was t))

then_grow : (ps qs rs : List Section) → AllGrow ps qs → AllGrow qs rs → AllGrow ps rs
then_grow ps qs rs a b p t e =
    let x = a p t e in
    let y = b p x.0 x.1.0 in
    (y.0, (y.1.0, grows_on t x.0 y.0 x.1.1 y.1.1))

-- the pieces behind a statement, by the piece that it stands behind
abbrev behind_step : Look → Located → Location → List Section → Section → List Section
behind_step look l s parts t = with_opened (kind_opened l.action) (opens look l.action) (slice_set parts l.segment.piece (section_after look l s t))

step_is : (all before : List Located) (regions : Regions) (sum : ℕ) (l : Located) (s : Location) (parts : List Section) (h : IsStep all before regions sum l s parts)
    → behind_step (meaning all before l) l s parts h.t ≡ parts_after (meaning all before l) l s parts
step_is all before regions sum l s parts h = ap (λ (o : Option Section). behind_step (meaning all before l) l s parts (unwrap_or o first_section)) (sym h.part)

step_grows : (all before : List Located) (regions : Regions) (sum : ℕ) (l : Located) (s : Location) (parts : List Section) → IsStep all before regions sum l s parts
    → AllGrow parts (parts_after (meaning all before l) l s parts)
step_grows all before regions sum l s parts h =
    let look = meaning all before l in
    let set_parts = slice_set parts l.segment.piece (section_after look l s h.t) in
    subst (AllGrow parts) (step_is all before regions sum l s parts h)
    (then_grow parts set_parts (behind_step look l s parts h.t) (set_grows parts l.segment.piece h.t (section_after look l s h.t) h.part (section_grows look l s h.t))
    (opened_grow (kind_opened l.action) (opens look l.action) set_parts))

all_grow : (all : List Located) (regions : Regions) (sum : ℕ) (before ls : List Located) (ss : List Location) (parts : List Section) → AllSteps all regions sum before ls ss parts
    → AllGrow parts (parts_from all before ls ss parts)
unfolding AllSteps parts_from
all_grow all regions sum before [] ss parts h p t e = (t, (e, as_it_was t))
all_grow all regions sum before (l ∷ ls) [] parts h p t e = absurd h
all_grow all regions sum before (l ∷ ls) (s ∷ ss) parts h p t e =
    let look = meaning all before l in
    let next = parts_after look l s parts in
    then_grow parts next (parts_from all (l ∷ before) ls ss next) (step_grows all before regions sum l s parts h.0)
    (all_grow all (regions_after look regions l.action) (stack_after look sum l.action) (l ∷ before) ls ss next h.1) p t e

still_stand : (ps qs : List Section) (part place : ℕ) (os : List RelocatableByte) → AllGrow ps qs → StandAt ps part place os → StandAt qs part place os
still_stand ps qs part place os g h =
    let x = g part h.t h.is_part in
    let start : start_of (x.0).at ≡ start_of h.t.at = ap start_of x.1.1.at in
    record {
      t = x.0;
      is_part = x.1.0;
      begins = omega (arith, h.begins, start);
      stand = λ k o e.
          ap (λ (cs : List PlacedByte). placed_byte_at cs ((place - start_of (x.0).at) + k)) x.1.1.placed_bytes
          ∙ ap (λ (n : ℕ). placed_byte_at (h.t.placed_bytes ++ x.1.1.more) ((place - n) + k)) start
          ∙ stays_there h.t.placed_bytes x.1.1.more ((place - start_of h.t.at) + k) o (h.stand k o e);
    }

-- ---- the relocatable bytes of a statement, when it has been written

begins_at : (all before : List Located) (regions : Regions) (sum : ℕ) (l : Located) (s : Location) (parts : List Section) (h : IsStep all before regions sum l s parts)
    → start_of (led l.segment.kind (s.place - s.before) h.t).at + (led l.segment.kind (s.place - s.before) h.t).length ≡ s.place
begins_at all before regions sum l s parts h =
    let f = step_fits all before regions sum l s parts h in
    let e = led_extends l.segment.kind (s.place - s.before) h.t in
    let at : start_of (led l.segment.kind (s.place - s.before) h.t).at ≡ start_of h.t.at = ap start_of e.at in
    omega (arith, at, e.size, h.stands.begins, f.forward)

abbrev Anything : Section → Type 0
Anything t = Unit {0}

module _ (written_stands : WrittenStands) where
  written_behind : (u : Section) → is_section u ≡ true → (line : ℕ) (os : List RelocatableByte) (k : ℕ) → relocatable_byte_at (written line os u) (u.length + k) ≡ slice_get os k
  written_behind u is line os k =
      let b : ltb (u.length + k) u.length ≡ false = grind (arith, nat_tests) in
      let s : (u.length + k) - u.length ≡ k = omega arith in
      (written_stands u is line os).0.stand (u.length + k)
      ∙ ap (λ (t : Bool). cond t (relocatable_byte_at u (u.length + k)) (slice_get os ((u.length + k) - u.length))) b
      ∙ ap (slice_get os) s

  stand_now : (all before : List Located) (regions : Regions) (sum : ℕ) (l : Located) (s : Location) (parts : List Section) (h : IsStep all before regions sum l s parts) → is_section h.t ≡ true
      → (os : List RelocatableByte) → content (meaning all before l) s.form l.here l.action ≡ RelocatableBytes os → StandAt (parts_after (meaning all before l) l s parts) l.segment.piece s.place os
  stand_now all before regions sum l s parts h is os says =
      let look = meaning all before l in
      let u = led l.segment.kind (s.place - s.before) h.t in
      let w = written l.line os u in
      let same : section_after look l s h.t ≡ w = ap (λ (c : Content). put_content l.line l.segment.kind s.place c u) says in
      let section : is_section u ≡ true = (led_stays Anything (λ n t a. tt) (λ t code b a. tt) l.segment.kind (s.place - s.before) h.t h.stands.kind (step_fits all before regions sum l s parts h).gap (is, tt)).0 in
      let begins = begins_at all before regions sum l s parts h in
      let start : start_of w.at ≡ start_of u.at = ap start_of (written_extends l.line os u).at in
      let there : slice_get (behind_step look l s parts h.t) l.segment.piece ≡ Some (section_after look l s h.t)
      = grown_at (opens look l.action) (slice_set parts l.segment.piece (section_after look l s h.t)) (set_itself parts l.segment.piece h.t (section_after look l s h.t) h.part) in
      record {
        t = w;
        is_part = ap (λ (ps : List Section). slice_get ps l.segment.piece) (sym (step_is all before regions sum l s parts h)) ∙ there ∙ ap (λ (t : Section). Some t) same;
        begins = omega (arith, begins, start);
        stand = λ k o e.
            let at : (s.place - start_of w.at) + k ≡ u.length + k = omega (arith, begins, start) in
            ap (relocatable_byte_at w) at ∙ written_behind u section l.line os k ∙ e;
      }
    where
      grown_at : (o : Option ℕ) (ps : List Section) → slice_get ps l.segment.piece ≡ Some (section_after (meaning all before l) l s h.t)
          → slice_get (with_opened (kind_opened l.action) o ps) l.segment.piece ≡ Some (section_after (meaning all before l) l s h.t)
      grown_at None ps e = e
      grown_at (Some address) ps e = prefix_at ps (blank (kind_opened l.action) (Some address) ∷ []) l.segment.piece (section_after (meaning all before l) l s h.t) e

  none_there : (passed after : List Located) (l : Located) → [] ≡ passed ++ l ∷ after → ⊥
  none_there [] after l e = cc
  none_there (p ∷ passed) after l e = cc

  abbrev Sections : List Section → Type 0
  Sections parts = AllByRecursion (λ t. (is_section t ≡ true) × Anything t) parts

  stands_in : (all : List Located) (regions : Regions) (sum : ℕ) (before ls : List Located) (ss : List Location) (parts : List Section) → AllSteps all regions sum before ls ss parts → Sections parts
      → (passed after : List Located) (l : Located) (s : Location) (os : List RelocatableByte) → ls ≡ passed ++ l ∷ after → slice_get ss (length passed) ≡ Some s
      → content (meaning all (reverse passed ++ before) l) s.form l.here l.action ≡ RelocatableBytes os → StandAt (parts_from all before ls ss parts) l.segment.piece s.place os
  unfolding AllSteps parts_from
  stands_in all regions sum before [] ss parts h k passed after l s os split location says = absurd (none_there passed after l split)
  stands_in all regions sum before (m ∷ ls) [] parts h k passed after l s os split location says = absurd h
  stands_in all regions sum before (m ∷ ls) (r ∷ ss) parts h k [] after l s os split location says =
      let look = meaning all before m in
      let next = parts_after look m r parts in
      let e : l ≡ m = ap (λ (xs : List Located). get_or xs 0 m) (sym split) in
      let f : s ≡ r = sym (same_element r s location) in
      let there : content look r.form m.here m.action ≡ RelocatableBytes os = (λ i. content (meaning all before (sym e i)) (sym f i).form (sym e i).here (sym e i).action) ∙ says in
      let now = stand_now all before regions sum m r parts h.0 (all_at (λ (t : Section). (is_section t ≡ true) × Anything t) parts m.segment.piece h.0.t h.0.part k).0 os there in
      let later = still_stand next (parts_from all (m ∷ before) ls ss next) m.segment.piece r.place os (all_grow all (regions_after look regions m.action) (stack_after look sum m.action) (m ∷ before) ls ss next h.1) now in
      subst (λ (n : ℕ). StandAt (parts_from all (m ∷ before) ls ss next) n s.place os) (λ i. (sym e i).segment.piece)
      (subst (λ (n : ℕ). StandAt (parts_from all (m ∷ before) ls ss next) m.segment.piece n os) (λ i. (sym f i).place) later)
  stands_in all regions sum before (m ∷ ls) (r ∷ ss) parts h k (p ∷ passed) after l s os split location says =
      let look = meaning all before m in
      let next = parts_after look m r parts in
      let e : p ≡ m = ap (λ (xs : List Located). get_or xs 0 m) (sym split) in
      let there : content (meaning all (reverse passed ++ m ∷ before) l) s.form l.here l.action ≡ RelocatableBytes os
      = ap (λ (b : List Located). content (meaning all b l) s.form l.here l.action) ((λ i. reverse passed ++ sym e i ∷ before) ∙ reverse_prefix p passed before) ∙ says in
      stands_in all (regions_after look regions m.action) (stack_after look sum m.action) (m ∷ before) ls ss next h.1
      (parts_kept all Anything (λ kind at. tt) (λ n t a. tt) (λ t code b a. tt) (λ b rs x y z ps u a q os f. tt) before regions sum m r parts h.0 k)
      passed after l s os (ap (λ (xs : List Located). drop 1 xs) split) location there

  pub statements_stand : SizesStay → SizesHaveLengths → SoundStatements → StatementsStand
  statements_stand stay lengths statements stmts d none collected before l s os has =
      let all = standing stmts in
      let w = walked stay lengths statements stmts none in
      let back : reverse (reverse before) ++ [] ≡ before = append-nil (reverse (reverse before)) ∙ reverse-reverse before in
      subst (λ (ps : List Section). StandAt ps l.segment.piece s.place os) (sym collected.parts)
      (stands_in all first_regions 0 [] all (location_list stmts) first_parts w.steps (first_kept Anything (λ kind at. tt)) (reverse before) has.after l s os has.split
      (ap (slice_get (location_list stmts)) (length-reverse before) ∙ has.location)
      (ap (λ (b : List Located). content (meaning all b l) s.form l.here l.action) back ∙ has.relocatable_bytes))

-- ---- nothing else

either_placed_bytes : (cs ds : List PlacedByte) (i : ℕ) (o : RelocatableByte) → placed_byte_at (cs ++ ds) i ≡ Some o → (placed_byte_at cs i ≡ Some o) ⊎ (placed_byte_at ds i ≡ Some o)
unfolding placed_byte_at
either_placed_bytes [] ds i o e = inr e
either_placed_bytes (c ∷ cs) ds i o e = by (eqb c.offset i) e (either_placed_bytes cs ds i o)
  where
    by : (b : Bool) → cond b (Some c.relocatable_byte) (placed_byte_at (cs ++ ds) i) ≡ Some o → (placed_byte_at (cs ++ ds) i ≡ Some o → (placed_byte_at cs i ≡ Some o) ⊎ (placed_byte_at ds i ≡ Some o))
        → (cond b (Some c.relocatable_byte) (placed_byte_at cs i) ≡ Some o) ⊎ (placed_byte_at ds i ≡ Some o)
    by true e h = inl e
    by false e h = h e

numbered_placed_bytes : (from : ℕ) (os : List RelocatableByte) (i : ℕ) (o : RelocatableByte) → placed_byte_at (numbered from os) i ≡ Some o → (k : ℕ) × ((from + k ≡ i) × (slice_get os k ≡ Some o))
unfolding placed_byte_at
numbered_placed_bytes from [] i o e = absurd (no_element o e)
numbered_placed_bytes from (p ∷ os) i o e = by (eqb from i) refl e (numbered_placed_bytes (from + 1) os i o)
  where
    by : (b : Bool) → eqb from i ≡ b → cond b (Some p) (placed_byte_at (numbered (from + 1) os) i) ≡ Some o
        → (placed_byte_at (numbered (from + 1) os) i ≡ Some o → (k : ℕ) × ((from + 1 + k ≡ i) × (slice_get os k ≡ Some o))) → (k : ℕ) × ((from + k ≡ i) × (slice_get (p ∷ os) k ≡ Some o))
    by true q e h = let same : from ≡ i = grind (arith, nat_tests, q) in (0, (omega (arith, same), e))
    by false q e h = let r = h e in (suc r.0, (omega (arith, r.1.0), r.1.1))

all_alike : (n : ℕ) (x : RelocatableByte) (k : ℕ) (o : RelocatableByte) → slice_get (replicate n x) k ≡ Some o → o ≡ x
all_alike zero x k o e = absurd (no_element o e)
all_alike (suc n) x zero o e = sym (same_element x o e)
all_alike (suc n) x (suc k) o e = all_alike n x k o e

either_set : (ps : List Section) (i : ℕ) (u : Section) (p : ℕ) (v : Section) → slice_get (set ps i u) p ≡ Some v → ((p ≡ i) × (u ≡ v)) ⊎ (slice_get ps p ≡ Some v)
either_set [] i u p v e = absurd (no_element v e)
either_set (x ∷ ps) zero u zero v e = inl (refl, same_element u v e)
either_set (x ∷ ps) zero u (suc p) v e = inr e
either_set (x ∷ ps) (suc i) u zero v e = inr e
either_set (x ∷ ps) (suc i) u (suc p) v e = by (either_set ps i u p v e)
  where
    by : ((p ≡ i) × (u ≡ v)) ⊎ (slice_get ps p ≡ Some v) → ((suc p ≡ suc i) × (u ≡ v)) ⊎ (slice_get ps p ≡ Some v)
    by (inl f) = inl (ap suc f.0, f.1)
    by (inr f) = inr f

either_pushed : (ps : List Section) (x : Section) (p : ℕ) (v : Section) → slice_get (ps ++ x ∷ []) p ≡ Some v → (slice_get ps p ≡ Some v) ⊎ (x ≡ v)
either_pushed [] x zero v e = inr (same_element x v e)
either_pushed [] x (suc p) v e = absurd (no_element v e)
either_pushed (y ∷ ps) x zero v e = inl e
either_pushed (y ∷ ps) x (suc p) v e = either_pushed ps x p v e

no_placed_byte : (i : ℕ) (o : RelocatableByte) → placed_byte_at [] i ≡ Some o → ⊥
unfolding placed_byte_at
no_placed_byte i o e = no_element o e

module _ (all : List Located) (whole : List Location) where
  -- filling, or a relocatable byte of a statement
  abbrev Said : ℕ → ℕ → RelocatableByte → Type 0
  Said part place o = (o ≡ Plain 255) ⊎ IsOfStatement all whole part place o

  abbrev AllSaid : ℕ → Section → Type 0
  AllSaid part t = (i : ℕ) (o : RelocatableByte) → relocatable_byte_at t i ≡ Some o → Said part (start_of t.at + i) o

  led_said : (part : ℕ) (kind : SegKind) (n : ℕ) (t : Section) → AllSaid part t → AllSaid part (led kind n t)
  led_said part Reg n t h i o e = h i o e
  led_said part Ram n t h i o e = h i o e
  led_said part Stack n t h i o e = h i o e
  led_said part Code n t h i o e = by (either_placed_bytes t.placed_bytes (numbered t.length os) i o (ap (λ (cs : List PlacedByte). placed_byte_at cs i) (sym (laid_placed_bytes os t)) ∙ e))
    where
      os : List RelocatableByte
      os = replicate n (Plain 255)

      by : (placed_byte_at t.placed_bytes i ≡ Some o) ⊎ (placed_byte_at (numbered t.length os) i ≡ Some o) → Said part (start_of (laid os t).at + i) o
      by (inl f) = subst (λ (at : Option ℕ). Said part (start_of at + i) o) (sym (laid_extends os t).at) (h i o f)
      by (inr f) = let r = numbered_placed_bytes t.length os i o f in inl (all_alike n (Plain 255) r.0 o r.1.1)

  put_said : (part line : ℕ) (kind : SegKind) (place : ℕ) (c : Content) (t : Section)
      → ((os : List RelocatableByte) → c ≡ RelocatableBytes os → (k : ℕ) (o : RelocatableByte) → slice_get os k ≡ Some o → IsOfStatement all whole part (start_of t.at + (t.length + k)) o)
      → AllSaid part t → AllSaid part (put_content line kind place c t)
  put_said part line kind place Nothing t says h i o e = h i o e
  put_said part line kind place (Reserved n) t says h i o e = h i o e
  put_said part line kind place (Upto to) t says h i o e = h i o e
  put_said part line kind place Even t says h i o e = led_said part kind (place % 2) t h i o e
  put_said part line kind place (RelocatableBytes os) t says h i o e = by (either_placed_bytes t.placed_bytes (numbered t.length os) i o (ap (λ (cs : List PlacedByte). placed_byte_at cs i) (sym (written_placed_bytes line os t)) ∙ e))
    where
      by : (placed_byte_at t.placed_bytes i ≡ Some o) ⊎ (placed_byte_at (numbered t.length os) i ≡ Some o) → Said part (start_of (written line os t).at + i) o
      by (inl f) = subst (λ (at : Option ℕ). Said part (start_of at + i) o) (sym (written_extends line os t).at) (h i o f)
      by (inr f) =
          let r = numbered_placed_bytes t.length os i o f in
          subst (λ (at : Option ℕ). Said part (start_of at + i) o) (sym (written_extends line os t).at)
          (inr (subst (λ (n : ℕ). IsOfStatement all whole part (start_of t.at + n) o) r.1.0 (says os refl r.0 o r.1.1)))

  abbrev PartsSaid : List Section → Type 0
  PartsSaid ps = (p : ℕ) (t : Section) → slice_get ps p ≡ Some t → AllSaid p t

  set_said : (ps : List Section) (i : ℕ) (u : Section) → AllSaid i u → PartsSaid ps → PartsSaid (set ps i u)
  set_said ps i u h k p t e = by (either_set ps i u p t e)
    where
      by : ((p ≡ i) × (u ≡ t)) ⊎ (slice_get ps p ≡ Some t) → AllSaid p t
      by (inl f) = subst (λ (n : ℕ). AllSaid n t) (sym f.0) (subst (AllSaid i) f.1 h)
      by (inr f) = k p t f

  opened_said : (kind : SegKind) (o : Option ℕ) (ps : List Section) → PartsSaid ps → PartsSaid (with_opened kind o ps)
  opened_said kind None ps h p t e = h p t e
  opened_said kind (Some address) ps h p t e = by (either_pushed ps (blank kind (Some address)) p t e)
    where
      by : (slice_get ps p ≡ Some t) ⊎ (blank kind (Some address) ≡ t) → AllSaid p t
      by (inl f) = h p t f
      by (inr f) = subst (AllSaid p) f (λ i o g. absurd (no_placed_byte i o g))

  step_said : (before : List Located) (regions : Regions) (sum : ℕ) (l : Located) (s : Location) (parts : List Section) → IsStep all before regions sum l s parts → slice_get whole (length before) ≡ Some s
      → PartsSaid parts → PartsSaid (parts_after (meaning all before l) l s parts)
  step_said before regions sum l s parts h location k =
      let look = meaning all before l in
      let c = content look s.form l.here l.action in
      let u = led l.segment.kind (s.place - s.before) h.t in
      let begins = begins_at all before regions sum l s parts h in
      let own : AllSaid l.segment.piece (section_after look l s h.t)
      = put_said l.segment.piece l.line l.segment.kind s.place c u
      (λ os is i o e. record {
        before = before;
        l = l;
        s = s;
        os = os;
        statement = record { after = h.after; split = h.split; location = location; relocatable_bytes = is };
        its_part = refl;
        index = i;
        relocatable_byte = e;
        its_place = omega (arith, begins);
      })
      (led_said l.segment.piece l.segment.kind (s.place - s.before) h.t (k l.segment.piece h.t h.part)) in
      subst PartsSaid (step_is all before regions sum l s parts h)
      (opened_said (kind_opened l.action) (opens look l.action) (slice_set parts l.segment.piece (section_after look l s h.t)) (set_said parts l.segment.piece (section_after look l s h.t) own k))

  said_from : (regions : Regions) (sum : ℕ) (before ls : List Located) (pre ss : List Location) (parts : List Section) → whole ≡ pre ++ ss → length pre ≡ length before
      → AllSteps all regions sum before ls ss parts → PartsSaid parts → PartsSaid (parts_from all before ls ss parts)
  unfolding AllSteps parts_from
  said_from regions sum before [] pre ss parts is long h k = k
  said_from regions sum before (l ∷ ls) pre [] parts is long h k = k
  said_from regions sum before (l ∷ ls) pre (s ∷ ss) parts is long h k =
      let look = meaning all before l in
      let location : slice_get whole (length before) ≡ Some s = (λ i. slice_get (is i) (sym long i)) ∙ seam pre ss s in
      said_from (regions_after look regions l.action) (stack_after look sum l.action) (l ∷ before) ls (pre ++ s ∷ []) ss (parts_after look l s parts) (is ∙ sym (append_assoc pre (s ∷ []) ss))
      (let q : length (pre ++ s ∷ []) ≡ length pre + 1 = length-append pre (s ∷ []) in let r : length (pre ++ s ∷ []) ≡ suc (length before) = omega (arith, q, long) in r)
      h.1 (step_said before regions sum l s parts h.0 location k)

  blank_said : (kind : SegKind) (part : ℕ) → AllSaid part (blank kind None)
  blank_said kind part i o e = absurd (no_placed_byte i o e)

  first_said : PartsSaid first_parts
  first_said zero t e = subst (AllSaid 0) (same_element (blank Reg None) t e) (blank_said Reg 0)
  first_said (suc zero) t e = subst (AllSaid 1) (same_element (blank Code None) t e) (blank_said Code 1)
  first_said (suc (suc zero)) t e = subst (AllSaid 2) (same_element (blank Ram None) t e) (blank_said Ram 2)
  first_said (suc (suc (suc p))) t e = absurd (no_element t e)

pub nothing_else : SizesStay → SizesHaveLengths → SoundStatements → NothingElseStands
nothing_else stay lengths statements stmts d none collected part offset t o is e =
    let all = standing stmts in
    let w = walked stay lengths statements stmts none in
    let parts = said_from all (location_list stmts) first_regions 0 [] all [] (location_list stmts) first_parts refl refl w.steps (first_said all (location_list stmts)) in
    parts part t (ap (λ (ps : List Section). slice_get ps part) (sym collected.parts) ∙ is) offset o e

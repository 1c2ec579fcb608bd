-- What is so of each piece, and stays while a statement is written, is so behind the last statement.
use Rattle.std.proofs.Common.{◌≡◌, ℕ, ◌-◌, true, List, [], ◌∷◌, refl, sym, ◌∙◌, subst}
use Rattle.std.specs.Prelude.{Option, Some, None, unwrap_or, slice_get, slice_set}
use Rattle.std.specs.List.{AllByRecursion}
use Rattle.kc_obj_module.specs.declared.parts.SegKind.{SegKind}
use Rattle.kc_obj_module.specs.declared.parts.SegKind.TheVariants.{Reg, Code, Ram}
use Rattle.kc_asm_encode.specs.declared.relocatable_byte.RelocatableByte.{RelocatableByte}
use Rattle.kc_asm_encode.specs.declared.relocatable_byte.RelocatableByte.TheVariants.{Plain}
use Rattle.kc_asm_symbols.specs.Located.{Located}
use Rattle.kc_asm_symbols.specs.Meanings.{meaning}
use Rattle.kc_asm_section.specs.Section.{Section, is_section, blank, put, skipped, written}
use Rattle.kc_asm_emit.specs.Content.{RelocatableBytes, content}
use Rattle.kc_asm_layout.specs.StatementSizes.{opens}
use Rattle.kc_asm_layout.specs.declared.location.Location.{Location}
use Rattle.kc_asm_check.specs.Codes.{Regions, regions_after, stack_after}
use Rattle.kc_asm_unlinked_laws.specs.Collecting.{led, section_after, kind_opened, with_opened, first_section, parts_after, parts_from, first_parts}
use Rattle.kc_asm_unlinked_laws.specs.Writable.{HasRoom}
use Rattle.kc_asm_unlinked_laws.proofs.Lists.{all_at, all_set, all_pushed}
use Rattle.kc_asm_unlinked_laws.proofs.Taping.{Extends, led_extends, led_stays, put_stays}
use Rattle.kc_asm_unlinked_laws.proofs.Walking.{IsStep, AllSteps}
use Rattle.kc_asm_unlinked_laws.proofs.Room.{step_fits}

blank_section : (kind : SegKind) (at : Option ℕ) → is_section (blank kind at) ≡ true
unfolding Rattle.kc_asm_section.specs.Section.rise
blank_section kind at = refl

-- a statement stands behind a piece, and this is the piece behind the gap before it
pub record IsAhead (all before : List Located) (regions : Regions) (sum : ℕ) (l : Located) (s : Location) (parts : List Section) (u : Section) : Type 0 where
  pub step : IsStep all before regions sum l s parts
  pub behind : Extends step.t (s.place - s.before) u
  pub is : is_section u ≡ true

pub first_kept : (Q : Section → Type 0) → ((kind : SegKind) (at : Option ℕ) → Q (blank kind at)) → AllByRecursion (λ t. (is_section t ≡ true) × Q t) first_parts
first_kept Q first = ((blank_section Reg None, first Reg None), ((blank_section Code None, first Code None), ((blank_section Ram None, first Ram None), tt)))

module _ (all : List Located) (Q : Section → Type 0) (first : (kind : SegKind) (at : Option ℕ) → Q (blank kind at))
    (skip : (n : ℕ) (t : Section) → Q t → Q (skipped n t)) (fill : (t : Section) → t.kind ≡ Code → is_section t ≡ true → Q t → Q (put (Plain 255) t))
    (write : (before : List Located) (regions : Regions) (sum : ℕ) (l : Located) (s : Location) (parts : List Section) (u : Section) → IsAhead all before regions sum l s parts u → Q u
    → (os : List RelocatableByte) → content (meaning all before l) s.form l.here l.action ≡ RelocatableBytes os → Q (written l.line os u)) where
  abbrev pub Kept : Section → Type 0
  Kept t = (is_section t ≡ true) × Q t

  one_kept : (before : List Located) (regions : Regions) (sum : ℕ) (l : Located) (s : Location) (parts : List Section) (h : IsStep all before regions sum l s parts)
      → Kept h.t → Kept (section_after (meaning all before l) l s h.t)
  one_kept before regions sum l s parts h k =
      let c = content (meaning all before l) s.form l.here l.action in
      let f = step_fits all before regions sum l s parts h in
      let u = led l.segment.kind (s.place - s.before) h.t in
      let e = led_extends l.segment.kind (s.place - s.before) h.t in
      let led_kept = led_stays Q skip fill l.segment.kind (s.place - s.before) h.t h.stands.kind f.gap k in
      let room : HasRoom u.length c s.place = subst (λ (n : ℕ). HasRoom n c s.place) (sym e.size) f.room in
      put_stays Q skip fill l.line l.segment.kind s.place c u (e.kind ∙ h.stands.kind) room
      (λ os is. write before regions sum l s parts u (record { step = h; behind = e; is = led_kept.0 }) led_kept.1 os is) led_kept

  opened_kept : (kind : SegKind) (o : Option ℕ) (parts : List Section) → AllByRecursion Kept parts → AllByRecursion Kept (with_opened kind o parts)
  opened_kept kind None parts h = h
  opened_kept kind (Some address) parts h = all_pushed Kept parts (blank kind (Some address)) (blank_section kind (Some address), first kind (Some address)) h

  pub parts_kept : (before : List Located) (regions : Regions) (sum : ℕ) (l : Located) (s : Location) (parts : List Section) → IsStep all before regions sum l s parts
      → AllByRecursion Kept parts → AllByRecursion Kept (parts_after (meaning all before l) l s parts)
  parts_kept before regions sum l s parts h k =
      let look = meaning all before l in
      let one = one_kept before regions sum l s parts h (all_at Kept parts l.segment.piece h.t h.part k) in
      opened_kept (kind_opened l.action) (opens look l.action) (slice_set parts l.segment.piece (section_after look l s (unwrap_or (slice_get parts l.segment.piece) first_section)))
      (subst (λ (o : Option Section). AllByRecursion Kept (slice_set parts l.segment.piece (section_after look l s (unwrap_or o first_section)))) (sym h.part)
      (all_set Kept parts l.segment.piece (section_after look l s h.t) one k))

  kept_from : (regions : Regions) (sum : ℕ) (before ls : List Located) (ss : List Location) (parts : List Section) → AllSteps all regions sum before ls ss parts
      → AllByRecursion Kept parts → AllByRecursion Kept (parts_from all before ls ss parts)
  unfolding AllSteps parts_from
  kept_from regions sum before [] ss parts h k = k
  kept_from regions sum before (l ∷ ls) [] parts h k = k
  kept_from regions sum before (l ∷ ls) (s ∷ ss) parts h k =
      let look = meaning all before l in
      kept_from (regions_after look regions l.action) (stack_after look sum l.action) (l ∷ before) ls ss (parts_after look l s parts) h.1
      (parts_kept before regions sum l s parts h.0 k)

  pub kept : (regions : Regions) (ls : List Located) (ss : List Location) → AllSteps all regions 0 [] ls ss first_parts → AllByRecursion Kept (parts_from all [] ls ss first_parts)
  kept regions ls ss h = kept_from regions 0 [] ls ss first_parts h (first_kept Q first)

-- Each relocatable byte of an unlinked module stands in the filled image, and where none does the image is blank.
use Rattle.std.proofs.Common.{◌≡◌, ℕ, zero, suc, ◌+◌, ◌-◌, ◌<◌, ◌≤◌, Bool, true, false, ◌&&◌, not, ltb, Option, Some, None, List, [], ◌∷◌, length, refl, sym, ap, ◌∙◌, subst, inl, inr, arith}
use Rattle.std.specs.Prelude.{if◌then◌else◌, slice_get}
use Rattle.std.specs.Option.{option_map}
use Rattle.std.proofs.lemmas.Bool.Decides.{nat_tests}
use Rattle.std.proofs.lemmas.Option.{slice_get-map, slice_get_within}
use Rattle.kc_expr.specs.declared.values.Value.{Value}
use Rattle.kc_obj_module.specs.declared.parts.Fixup.{Fixup}
use Rattle.kc_obj_module.specs.declared.parts.Segment.{Segment}
use Rattle.kc_obj_module.specs.Object.{Object}
use Rattle.kc_obj_module.specs.Contents.{content_at}
use Rattle.kc_obj_module.specs.Fixups.{fixup_at}
use Rattle.kc_obj_module.specs.Pieces.{kind_number}
use Rattle.kc_obj_module.specs.Numbers.{Bases, number, reach, width, fits}
use Rattle.kc_asm_encode.specs.declared.relocatable_byte.RelocatableByte.{RelocatableByte}
use Rattle.kc_asm_encode.specs.declared.relocatable_byte.RelocatableByte.TheVariants.{Plain, First, Second}
use Rattle.kc_asm_encode.specs.Filling.{address, fill}
use Rattle.kc_asm_encode.specs.Relocating.{depends, relocated, no_bases, misfit, misfit_code}
use Rattle.kc_link_place.specs.Filled.{first_of_fixup, second_of_fixup, second_at, fixup_number, part_at, plus, filled_at}
use Rattle.kc_asm_section.specs.declared.unlinked.UnlinkedModule.{UnlinkedModule}
use Rattle.kc_asm_section.specs.Section.{Section, is_section, relocatable_byte_at}
use Rattle.kc_asm_section.specs.Order.{start_of, number_of, segment_of, relocation}
use Rattle.kc_asm_section.specs.Puts.{byte_for, fixup_for, target_of}
use Rattle.kc_asm_section.specs.ModuleOf.{IsModuleOf, byte_at, fixup_from, relocated_at, kept_in, pieces_in}
use Rattle.kc_asm_section.specs.UnlinkedModules.{IsUnlinkedModule}
use Rattle.kc_link_place.specs.Placing.{Places, bases_of, base_lists, base_at}
use Rattle.kc_link.specs.Filled.{IsFilled, StandsAt, AllFit}
use Rattle.kc_link.specs.Laws.{AbsolutePiecesStand, RelocationsFit}
use Rattle.kc_asm_unlinked_laws.specs.Parts.{StandsIn, piece_number, start, part_bases}
use Rattle.kc_asm_unlinked_laws.specs.Settled.{HasFirsts, IsWhole}
use Rattle.kc_asm_unlinked_laws.specs.Linked.{IsHeld, StandsAbsolute, AreModulesOf, IsCovered, UnlinkedModulesAreLinked, NumbersFit, AbsolutePartsStand}
use Rattle.kc_asm_unlinked_laws.proofs.PlacedBytes.{is_within, follows, section_of, part_of, three_parts, own_or_absolute}
use Rattle.kc_asm_unlinked_laws.proofs.FilledBytes.{IsPlaced, same_number, same_target, own_second, second_by, no_second, whole, plain_total, first_total, second_total}
use Rattle.kc_asm_unlinked_laws.proofs.Positions.{piece_is, part_is}

-- ---- one part of one unlinked module

-- what is known of a part of an unlinked module, of its module, and of the bases
pub record IsOf (d : UnlinkedModule) (m : Object) (c : Bases) (part : ℕ) (t : Section) : Type 0 where
  pub of : IsModuleOf d m
  pub there : slice_get (pieces_in d) (piece_number d part) ≡ Some t
  pub placed : IsPlaced (part_bases c d) t.at (kind_number t.kind) (start c d part)
  pub follows : (offset kind begin : ℕ) (v : Value) → relocatable_byte_at t offset ≡ Some (First kind begin v) → width kind ≡ 2 → relocatable_byte_at t (offset + 1) ≡ Some (Second kind v)
  pub leads : HasFirsts t

module _ (d : UnlinkedModule) (m : Object) (c : Bases) (part : ℕ) (t : Section) (h : IsOf d m c part t) where
  abbrev n : ℕ → ℕ
  n = number_of (kept_in d)

  abbrev p : ℕ
  p = piece_number d part

  byte_is : (offset : ℕ) (o : RelocatableByte) → relocatable_byte_at t offset ≡ Some o → content_at m.contents p offset ≡ Some (byte_for t offset o)
  byte_is offset o e = h.of.contents p offset ∙ (ap (λ (x : Option Section). byte_at x offset) h.there ∙ ap (option_map (byte_for t offset)) e)

  fixup_is : (offset : ℕ) → fixup_at m.fixups p offset ≡ fixup_from n t p offset (relocatable_byte_at t offset)
  fixup_is offset = h.of.fixups p offset ∙ ap (λ (x : Option Section). relocated_at n p x offset) h.there

  fixup_of : (offset : ℕ) (o : RelocatableByte) → relocatable_byte_at t offset ≡ Some o → fixup_at m.fixups p offset ≡ fixup_for n p offset (relocation t o)
  fixup_of offset o e = fixup_is offset ∙ ap (fixup_from n t p offset) e

  sum_is : (offset byte first second whole : ℕ) → content_at m.contents p offset ≡ Some byte → first_of_fixup c (c.piece p + offset) (fixup_at m.fixups p offset) ≡ first
      → second_at c m.fixups p offset ≡ second → byte + (first + second) ≡ whole → filled_at c m p offset ≡ Some whole
  unfolding filled_at
  sum_is offset byte first second whole b f s e = rw (b, f, s, e) refl

  no_first : (before : ℕ) (o : RelocatableByte) → relocatable_byte_at t (suc before) ≡ Some o → ((kind : ℕ) (v : Value) → o ≡ Second kind v → ⊥)
      → (kind begin : ℕ) (v : Value) → relocatable_byte_at t before ≡ Some (First kind begin v) → width kind ≡ 2 → ⊥
  no_first before o e not_second kind begin v f w =
      let s : before + 1 ≡ suc before = omega arith in
      let g : relocatable_byte_at t (suc before) ≡ Some (Second kind v) = ap (relocatable_byte_at t) (sym s) ∙ h.follows before kind begin v f w in
      let q : Some o ≡ Some (Second kind v) = sym e ∙ g in
      not_second kind v (cc q)

  second_none : (offset : ℕ) (o : RelocatableByte) → relocatable_byte_at t offset ≡ Some o → ((kind : ℕ) (v : Value) → o ≡ Second kind v → ⊥) → second_at c m.fixups p offset ≡ 0
  second_none zero o e not_second = refl
  second_none (suc before) o e not_second =
      ap (second_of_fixup c (c.piece p + before)) (fixup_is before) ∙ no_second c n t p (c.piece p + before) before (relocatable_byte_at t before) (no_first before o e not_second)

  second_some : (offset before kind begin : ℕ) (v : Value) → suc before ≡ offset → relocatable_byte_at t before ≡ Some (First kind begin v) → width kind ≡ 2
      → second_at c m.fixups p (suc before) ≡ own_second c n t p (c.piece p + before) kind v
  second_some offset before kind begin v s f w =
      ap (second_of_fixup c (c.piece p + before)) (fixup_of before (First kind begin v) f) ∙ second_by c n t p (c.piece p + before) before kind begin v (depends kind t.at (kind_number t.kind) v.base) refl w

  filled_second : (before kind : ℕ) (v : Value) → relocatable_byte_at t (suc before) ≡ Some (Second kind v) → (begin : ℕ) → relocatable_byte_at t before ≡ Some (First kind begin v) → width kind ≡ 2
      → filled_at c m p (suc before) ≡ Some (fill (part_bases c d) (c.piece p + suc before) (Second kind v))
  filled_second before kind v e begin f w =
      sum_is (suc before) _ _ _ _ (byte_is (suc before) (Second kind v) e) (ap (first_of_fixup c (c.piece p + suc before)) (fixup_of (suc before) (Second kind v) e))
      (second_some (suc before) before kind begin v refl f w) (second_total c n t p (c.piece p) h.placed before kind v (depends kind t.at (kind_number t.kind) v.base) refl)

  pub filled_is : (offset : ℕ) (o : RelocatableByte) → relocatable_byte_at t offset ≡ Some o → filled_at c m p offset ≡ Some (fill (part_bases c d) (c.piece p + offset) o)
  filled_is offset (Plain y) e =
      sum_is offset _ _ _ _ (byte_is offset (Plain y) e) (ap (first_of_fixup c (c.piece p + offset)) (fixup_of offset (Plain y) e))
      (second_none offset (Plain y) e (λ kind v q. cc q)) (plain_total c n t p (c.piece p) h.placed offset y)
  filled_is offset (First kind begin v) e =
      sum_is offset _ _ _ _ (byte_is offset (First kind begin v) e) (ap (first_of_fixup c (c.piece p + offset)) (fixup_of offset (First kind begin v) e))
      (second_none offset (First kind begin v) e (λ k w q. cc q)) (first_total c n t p (c.piece p) h.placed offset kind begin v (depends kind t.at (kind_number t.kind) v.base) refl)
  filled_is offset (Second kind v) e =
      let f = h.leads offset kind v e in
      let s : suc f.before ≡ offset = omega (arith, f.next) in
      subst (λ (x : ℕ). filled_at c m p x ≡ Some (fill (part_bases c d) (c.piece p + x) (Second kind v))) s
      (filled_second f.before kind v (ap (relocatable_byte_at t) s ∙ e) f.begin f.first f.wide)

  -- ---- its numbers fit

  fits_there : (i offset kind begin : ℕ) (v : Value) (ms : List Object) (places : Places) → AllFit ms places → slice_get ms i ≡ Some m → c ≡ bases_of ms places i m
      → relocatable_byte_at t offset ≡ Some (First kind begin v) → depends kind t.at (kind_number t.kind) v.base ≡ true
      → fits kind (number kind ((c.piece p + offset) + reach kind) (address (part_bases c d) v)) ≡ true
  unfolding relocated
  fits_there i offset kind begin v ms places all is_there same e dep =
      let f : Fixup = record { piece = p; offset = offset; kind = kind; target = target_of n v.base; addend = v.number } in
      let there : fixup_at m.fixups p offset ≡ Some f = fixup_of offset (First kind begin v) e ∙ (rw dep refl) in
      let fit : fits kind (fixup_number (bases_of ms places i m) ((bases_of ms places i m).piece p + offset) f) ≡ true = all.fit i p offset m f is_there there in
      let own : fits kind (fixup_number c (c.piece p + offset) f) ≡ true = subst (λ (b : Bases). fits kind (fixup_number b (b.piece p + offset) f) ≡ true) (sym same) fit in
      subst (λ (x : ℕ). fits kind (number kind ((c.piece p + offset) + reach kind) x) ≡ true) (same_target c n v.base v.number) own

  fits_own : (offset kind begin : ℕ) (v : Value) → misfit t.at (kind_number t.kind) (start_of t.at + offset) (First kind begin v) ≡ None → depends kind t.at (kind_number t.kind) v.base ≡ false
      → fits kind (number kind ((c.piece p + offset) + reach kind) (address (part_bases c d) v)) ≡ true
  unfolding misfit
  fits_own offset kind begin v e dep =
      let e1 : (c.piece p + offset) + reach kind ≡ c.piece p + (offset + reach kind) = omega arith in
      let e2 : (start_of t.at + offset) + reach kind ≡ start_of t.at + (offset + reach kind) = omega arith in
      let same : number kind ((c.piece p + offset) + reach kind) (address (part_bases c d) v) ≡ number kind ((start_of t.at + offset) + reach kind) (address no_bases v) =
      ap (λ (x : ℕ). number kind x (address (part_bases c d) v)) e1 ∙ (same_number (part_bases c d) t.at (kind_number t.kind) (c.piece p) kind v (offset + reach kind) h.placed dep ∙ ap (λ (x : ℕ). number kind x (address no_bases v)) (sym e2)) in
      ap (fits kind) same ∙ by (fits kind (number kind ((start_of t.at + offset) + reach kind) (address no_bases v))) (rw dep at e)
    where
      by : (b : Bool) → (if not false && not b then Some (misfit_code kind) else None) ≡ None → b ≡ true
      by true q = refl
      by false q = absurd (cc q)

-- ---- an unlinked module of several

get_some : {A : Type 0} (xs : List A) (i : ℕ) → i < length xs → (x : A) × (slice_get xs i ≡ Some x)
get_some [] i h = absurd (omega arith)
get_some (x ∷ xs) zero h = (x, refl)
get_some (x ∷ xs) (suc i) h = get_some xs i (omega arith)

base_is : (ms : List Object) (places : Places) (i : ℕ) (m : Object) (piece : ℕ) → (bases_of ms places i m).piece piece ≡ base_at places.pieces i piece
unfolding base_lists base_at
base_is ms places i m piece = refl

pub absolute_parts : AbsolutePiecesStand → AbsolutePartsStand
absolute_parts law ds ms ranges places are ok i d m is_unlinked_module is_there = record {
  parts = λ part address t is_part at.
      let unlinked : IsUnlinkedModule d = are.are_unlinked_modules i d is_unlinked_module in
      let of : IsModuleOf d m = are.of i d m is_unlinked_module is_there in
      let p : ℕ = piece_number d part in
      let piece : slice_get (pieces_in d) (piece_number d part) ≡ Some t = piece_is d (three_parts d.parts.items unlinked.places) part t is_part (inr (above d part t address unlinked is_part at)) in
      let segment : slice_get m.segments (piece_number d part) ≡ Some (segment_of t) =
      ap (λ (l : List Segment). slice_get l (piece_number d part)) of.segments ∙ (slice_get-map segment_of (pieces_in d) (piece_number d part) ∙ ap (λ (o : Option Section). option_map segment_of o) piece) in
      base_is ms places i m (piece_number d part) ∙ law ms ranges places i (piece_number d part) address m (segment_of t) ok is_there segment at;
}
  where
    above : (d : UnlinkedModule) (part : ℕ) (t : Section) (address : ℕ) → IsUnlinkedModule d → slice_get d.parts.items part ≡ Some t → t.at ≡ Some address → 3 ≤ part
    above d part t address unlinked is_part at = elim (own_or_absolute d.parts.items part t unlinked.places is_part) [
      | inl own ↦ (let q : None ≡ Some address = sym own.at ∙ at in absurd (cc q))
      | inr absolute ↦ absolute.above
    ]

placed_is : (d : UnlinkedModule) (c : Bases) (part : ℕ) (t : Section) → IsUnlinkedModule d → StandsAbsolute c d → slice_get d.parts.items part ≡ Some t → IsPlaced (part_bases c d) t.at (kind_number t.kind) (start c d part)
placed_is d c part t unlinked stand is_part = elim (own_or_absolute d.parts.items part t unlinked.places is_part) [
  | inl own ↦ record {
    relocatable = λ e.
        let below : ltb part 3 ≡ true = grind (arith, nat_tests, own.below) in
        let number : number_of (kept_in d) part ≡ piece_number d part = rw below refl in
        ap (λ (x : ℕ). c.piece (number_of (kept_in d) x)) own.own ∙ ap c.piece number;
    absolute = λ x e. (let q : None ≡ Some x = sym own.at ∙ e in absurd (cc q));
  }
  | inr absolute ↦ record {
    relocatable = λ e. (let q : Some absolute.address ≡ None = sym absolute.at ∙ e in absurd (cc q));
    absolute = λ x e. stand.parts part x t is_part e;
  }
]

-- a part in which a relocatable byte stands
part_is_of : (d : UnlinkedModule) (m : Object) (c : Bases) (part offset : ℕ) (t : Section) (o : RelocatableByte) → IsUnlinkedModule d → IsWhole d → IsModuleOf d m → StandsAbsolute c d → StandsIn d part t offset o → IsOf d m c part t
part_is_of d m c part offset t o unlinked is_whole of stand s =
    let section : is_section t ≡ true = section_of d.parts.items part t is_whole.sections s.is_part in
    let within = is_within t offset o section s.is_relocatable_byte in
    record {
      of = of;
      there = piece_is d (three_parts d.parts.items unlinked.places) part t s.is_part (inl (omega (arith, within)));
      placed = placed_is d c part t unlinked stand s.is_part;
      follows = follows (length d.externals.items) t section (part_of (length d.externals.items) d.parts.items part t unlinked.parts s.is_part);
      leads = is_whole.seconds part t s.is_part;
    }

held : (ms : List Object) (places : Places) (image : List ℕ) (i : ℕ) (d : UnlinkedModule) (m : Object) (part offset : ℕ) (t : Section) (o : RelocatableByte) → IsFilled ms places image → slice_get ms i ≡ Some m
    → IsOf d m (bases_of ms places i m) part t → relocatable_byte_at t offset ≡ Some o → IsHeld image (bases_of ms places i m) d part offset o
held ms places image i d m part offset t o filled is_there h e =
    let c : Bases = bases_of ms places i m in
    let f = filled_is d m (bases_of ms places i m) part t h offset o e in
    let w : 0x2000 ≤ start (bases_of ms places i m) d part + offset = filled.within i (piece_number d part) offset _ m is_there f in
    record {
      within = w;
      byte = filled.stands ((start (bases_of ms places i m) d part + offset) - 0x2000) (record {
        index = i;
        m = m;
        is_there = is_there;
        piece = piece_number d part;
        offset = offset;
        value = fill (part_bases (bases_of ms places i m) d) (start (bases_of ms places i m) d part + offset) o;
        stands = f;
        at = omega (arith, w);
      });
    }

-- ---- each byte of a module is a relocatable byte of its unlinked module

its_relocatable : (t : Option Section) (offset n value : ℕ) → plus n (byte_at t offset) ≡ Some value → (u : Section) × ((t ≡ Some u) × ((o : RelocatableByte) × (relocatable_byte_at u offset ≡ Some o)))
its_relocatable None offset n value e = absurd (cc e)
its_relocatable (Some u) offset n value e = (u, (refl, by (relocatable_byte_at u offset) e))
  where
    by : (o : Option RelocatableByte) → plus n (option_map (byte_for u offset) o) ≡ Some value → (x : RelocatableByte) × (o ≡ Some x)
    by None e = absurd (cc e)
    by (Some x) e = (x, refl)

byte_of : (d : UnlinkedModule) (m : Object) (c : Bases) (piece offset value : ℕ) → IsModuleOf d m → filled_at c m piece offset ≡ Some value
    → (u : Section) × ((slice_get (pieces_in d) piece ≡ Some u) × ((o : RelocatableByte) × (relocatable_byte_at u offset ≡ Some o)))
unfolding filled_at
byte_of d m c piece offset value of e =
    its_relocatable (slice_get (pieces_in d) piece) offset (part_at c m.fixups piece offset) value
    (subst (λ (x : Option ℕ). plus (part_at c m.fixups piece offset) x ≡ Some value) (of.contents piece offset) e)

moved : (c : Bases) (number piece offset place : ℕ) → number ≡ piece → c.piece piece + offset ≡ 0x2000 + place → c.piece number + offset ≡ 0x2000 + place
moved c number piece offset place e h = ap (λ (x : ℕ). c.piece x + offset) e ∙ h

covered : (ds : List UnlinkedModule) (ms : List Object) (places : Places) (place : ℕ) → AreModulesOf ds ms → StandsAt ms places place → IsCovered ds ms places place
covered ds ms places place are s =
    let l : s.index < length ds = (let k = slice_get_within ms s.index s.m s.is_there in omega (arith, k, are.count)) in
    let d = get_some ds s.index l in
    let unlinked = are.are_unlinked_modules s.index d.0 d.1 in
    let b = byte_of d.0 s.m (bases_of ms places s.index s.m) s.piece s.offset s.value (are.of s.index d.0 s.m d.1 s.is_there) s.stands in
    let p = part_is d.0 (three_parts d.0.parts.items unlinked.places) s.piece b.0 s.offset b.1.1.0 b.1.0 b.1.1.1 in
    record {
      index = s.index;
      d = d.0;
      is_there = d.1;
      m = s.m;
      its_module = s.is_there;
      part = p.0;
      offset = s.offset;
      t = b.0;
      relocatable_byte = b.1.1.0;
      stands = record { is_part = p.1.1; is_relocatable_byte = b.1.1.1 };
      at = moved (bases_of ms places s.index s.m) (piece_number d.0 p.0) s.piece s.offset place p.1.0 s.at;
    }

-- ---- the laws

pub linked : AbsolutePiecesStand → UnlinkedModulesAreLinked
linked law ds ms ranges places image are ok filled = record {
  long = filled.long;
  holds = λ i d m is_unlinked_module is_there. record {
    relocatable_bytes = λ part offset t o s.
        held ms places image i d m part offset t o filled is_there
        (part_is_of d m (bases_of ms places i m) part offset t o (are.are_unlinked_modules i d is_unlinked_module) (are.are_whole i d is_unlinked_module) (are.of i d m is_unlinked_module is_there)
        (absolute_parts law ds ms ranges places are ok i d m is_unlinked_module is_there) s)
        s.is_relocatable_byte;
  };
  blank = λ place l none. filled.blank place l (λ s. none (covered ds ms places place are s));
}

pub all_fit : AbsolutePiecesStand → RelocationsFit → NumbersFit
all_fit law fit ds ms ranges places are settled ok i d m is_unlinked_module is_there = record {
  numbers = λ part offset kind begin t v s.
      let h = part_is_of d m (bases_of ms places i m) part offset t (First kind begin v) (are.are_unlinked_modules i d is_unlinked_module) (are.are_whole i d is_unlinked_module) (are.of i d m is_unlinked_module is_there)
      (absolute_parts law ds ms ranges places are ok i d m is_unlinked_module is_there) s in
      by part offset kind begin t v (depends kind t.at (kind_number t.kind) v.base) refl h s;
}
  where
    by : (part offset kind begin : ℕ) (t : Section) (v : Value) (dep : Bool) → depends kind t.at (kind_number t.kind) v.base ≡ dep → IsOf d m (bases_of ms places i m) part t → StandsIn d part t offset (First kind begin v)
        → fits kind (number kind ((start (bases_of ms places i m) d part + offset) + reach kind) (address (part_bases (bases_of ms places i m) d) v)) ≡ true
    by part offset kind begin t v true dep h s = fits_there d m (bases_of ms places i m) part t h i offset kind begin v ms places (fit ms ranges places ok) is_there refl s.is_relocatable_byte dep
    by part offset kind begin t v false dep h s = fits_own d m (bases_of ms places i m) part t h offset kind begin v (settled i d is_unlinked_module part t s.is_part offset (First kind begin v) s.is_relocatable_byte) dep

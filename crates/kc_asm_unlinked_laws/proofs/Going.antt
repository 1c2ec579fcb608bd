-- How the pieces go on from statement to statement.
use Rattle.std.proofs.Common.{◌≡◌, ℕ, zero, suc, ◌+◌, ◌-◌, ◌<◌, ◌≤◌, Bool, true, false, ◌&&◌, cond, List, [], ◌∷◌, ◌++◌, map, set, get_or, length, length-append, length-set, append_assoc, refl, sym, ap, ◌∙◌, subst, arith}
use Rattle.std.specs.Prelude.{Option, Some, None, unwrap_or, slice_get, is_some}
use Rattle.std.specs.List.{list_all, AllByRecursion}
use Rattle.std.proofs.lemmas.List.Folds.{list_all-append}
use Rattle.kc_obj_module.specs.declared.parts.SegKind.{SegKind}
use Rattle.kc_obj_module.specs.declared.parts.SegKind.TheVariants.{Reg, Code, Ram, Stack}
use Rattle.kc_obj_module.specs.Pieces.{kind_number, in_region}
use Rattle.kc_expr.specs.Tree.{Tree}
use Rattle.kc_expr.specs.Meaning.{Answer}
use Rattle.kc_expr.proofs.UnreportedLemmas.{AreUnreported}
use Rattle.kc_source_statement.specs.Trees.{ActionTree}
use Rattle.kc_source_statement.specs.Trees as trees
use Rattle.kc_asm_symbols.specs.declared.segments.Segment.{Segment}
use Rattle.kc_asm_symbols.specs.Located.{Located, opened as segment_opened, segment_after}
use Rattle.kc_asm_symbols.specs.Meanings.{meaning}
use Rattle.kc_branch.specs.declared.piece.Form.{Form}
use Rattle.kc_branch.specs.Forms.{size}
use Rattle.kc_asm_section.specs.Section.{Section, blank}
use Rattle.kc_asm_section.specs.Order.{start_of}
use Rattle.kc_asm_emit.specs.Alignment.{gap}
use Rattle.kc_asm_emit.specs.Arguments.{Look, fixed_of}
use Rattle.kc_asm_emit.specs.Content.{content}
use Rattle.kc_asm_emit.specs.Faults.{faults_of, part_faults}
use Rattle.kc_asm_layout.specs.declared.size_record.Body.{Body}
use Rattle.kc_asm_layout.specs.declared.size_record.Body.TheVariants as body
use Rattle.kc_asm_layout.specs.declared.size_record.SizeRecord.{SizeRecord}
use Rattle.kc_asm_layout.specs.StatementSizes.{opens, opened_at}
use Rattle.kc_asm_layout.specs.SizesLaws.{extent_in, IsSizeRecordOf}
use Rattle.kc_asm_layout.specs.declared.location.Location.{Location}
use Rattle.kc_asm_layout.specs.Places.{Ends, begun, passed, end_of, address_added, opened, location_of}
use Rattle.kc_asm_check.specs.Codes.{Regions, opening, opening_of, opening_faults, is_outside, region_at, with_region, regions_after}
use Rattle.kc_asm_unlinked_laws.specs.Collecting.{led, section_after, kind_opened, with_opened}
use Rattle.kc_asm_unlinked_laws.proofs.Lists.{same_element, no_element, prefix_at, last_at, set_itself, index_at, all_at, all_set, all_pushed, mapped_at, mapped_set, mapped_same, mapped_pushed, mapped_length}
use Rattle.kc_asm_unlinked_laws.proofs.Faultless.{IsFaultless, unless, fixed_number}
use Rattle.kc_asm_unlinked_laws.proofs.Taping.{size_at, Extends, led_extends, put_extends, both_extend}
use Rattle.kc_asm_unlinked_laws.proofs.Standing.{end_of_section, at_of, IsOwn, Holds, IsWell, passed_by, StandsAt, Fits, fits, not_false}

-- ---- the heads of pieces: the three relocatable ones, and absolute ones

abbrev pub Head : Type 0
Head = SegKind × Option ℕ

abbrev pub head_of : Section → Head
head_of t = (t.kind, t.at)

abbrev pub is_absolute_head : Head → Bool
is_absolute_head h = is_some h.1

pub record AreHeads (hs : List Head) : Type 0 where
  pub rest : List Head
  pub first : hs ≡ (Reg, None) ∷ (Code, None) ∷ (Ram, None) ∷ rest
  pub absolute : list_all is_absolute_head rest ≡ true

mapped_back : {A B : Type 0} (f : A → B) (xs : List A) (i : ℕ) (y : B) → slice_get (map f xs) i ≡ Some y → (x : A) × ((slice_get xs i ≡ Some x) × (f x ≡ y))
mapped_back f [] i y e = absurd (no_element y e)
mapped_back f (x ∷ xs) zero y e = (x, (refl, same_element (f x) y e))
mapped_back f (x ∷ xs) (suc i) y e = mapped_back f xs i y e

-- the piece with this number has this head
pub record HasPiece (parts : List Section) (piece : ℕ) (kind : SegKind) : Type 0 where
  pub t : Section
  pub part : slice_get parts piece ≡ Some t
  pub kind_is : t.kind ≡ kind
  pub own : IsOwn piece t.kind t.at

abbrev is_stack : SegKind → Bool
is_stack Reg = false
is_stack Code = false
is_stack Ram = false
is_stack Stack = true

relocatable_at : (parts : List Section) (kind : SegKind) (piece : ℕ) → piece ≡ kind_number kind → piece < 3 → slice_get (map head_of parts) piece ≡ Some (kind, None) → HasPiece parts piece kind
relocatable_at parts kind piece is below e =
    let b = mapped_back head_of parts piece (kind, None) e in
    let k : (b.0).kind ≡ kind = ap (λ (h : Head). h.0) b.1.1 in
    let a : (b.0).at ≡ None = ap (λ (h : Head). h.1) b.1.1 in
    record {
      t = b.0;
      part = b.1.0;
      kind_is = k;
      own = subst (λ (at : Option ℕ). IsOwn piece (b.0).kind at) (sym a) (is ∙ sym (ap kind_number k), below);
    }

relocatable : (parts : List Section) → AreHeads (map head_of parts) → (kind : SegKind) → is_stack kind ≡ false → HasPiece parts (kind_number kind) kind
relocatable parts h Reg e = relocatable_at parts Reg 0 refl (omega arith) (ap (λ (hs : List Head). slice_get hs 0) h.first)
relocatable parts h Code e = relocatable_at parts Code 1 refl (omega arith) (ap (λ (hs : List Head). slice_get hs 1) h.first)
relocatable parts h Ram e = relocatable_at parts Ram 2 refl (omega arith) (ap (λ (hs : List Head). slice_get hs 2) h.first)
relocatable parts h Stack e = absurd (cc e)

pushed_heads : (hs : List Head) (kind : SegKind) (address : ℕ) → AreHeads hs → AreHeads (hs ++ (kind, Some address) ∷ [])
pushed_heads hs kind address h = record {
  rest = h.rest ++ (kind, Some address) ∷ [];
  first = ap (λ (xs : List Head). xs ++ (kind, Some address) ∷ []) h.first;
  absolute = list_all-append is_absolute_head h.rest ((kind, Some address) ∷ []) ∙ ap (λ (b : Bool). b && true) h.absolute;
}

three_pieces : (parts : List Section) → AreHeads (map head_of parts) → 3 ≤ length parts
three_pieces parts h =
    let n : length (map head_of parts) ≡ suc (suc (suc (length h.rest))) = ap (λ (hs : List Head). length hs) h.first in
    omega (arith, mapped_length head_of parts, n)

-- ---- all pieces, before a statement in a segment

pub record Standing (g : Segment) (ends : Ends) (regions : Regions) (list : List (Option ℕ)) (size_records : List SizeRecord) (parts : List Section) : Type 0 where
  pub ends_are : ends ≡ map end_of_section parts
  pub regions_are : regions ≡ map at_of parts
  pub addresses_are : list ≡ map at_of parts ++ opened size_records
  pub count : g.count ≡ length parts
  pub piece : HasPiece parts g.piece g.kind
  pub heads : AreHeads (map head_of parts)
  pub wells : AllByRecursion IsWell parts

passed_is : (form : Form) (place : ℕ) (b : Body) → passed form place b ≡ passed_by place (extent_in form b)
passed_is form place (body.Bytes n) = refl
passed_is form place (body.Upto to) = refl
passed_is form place body.Even = refl
passed_is form place (body.Branch kind a) = refl

module _ (all before : List Located) (l : Located) (n : SizeRecord) (size_record : IsSizeRecordOf n all before l) (form : Form) (ends : Ends) (regions : Regions) (list : List (Option ℕ)) (size_records : List SizeRecord) (parts : List Section)
    (w : Standing l.segment ends regions list size_records parts) where
  abbrev look : Look
  look = meaning all before l

  abbrev location : Location
  location = location_of list form ends n

  abbrev section : Section
  section = w.piece.t

  before_is : get_or ends n.segment.piece 0 ≡ end_of_section section
  before_is =
      ap (λ (g : Segment). get_or ends g.piece 0) size_record.segment
      ∙ ap (λ (es : List ℕ). get_or es l.segment.piece 0) w.ends_are
      ∙ index_at (map end_of_section parts) l.segment.piece (end_of_section section) 0 (mapped_at end_of_section parts l.segment.piece section w.piece.part)

  pub stands : StandsAt look regions l location section
  stands =
      let at = mapped_at at_of parts l.segment.piece section w.piece.part in
      record {
        kind = w.piece.kind_is;
        begins = sym before_is;
        place = ap (λ (align : ℕ). get_or ends n.segment.piece 0 + gap (get_or ends n.segment.piece 0) align) size_record.alignment;
        after = passed_is form (get_or ends n.segment.piece 0 + gap (get_or ends n.segment.piece 0) n.alignment) n.body
            ∙ ap (passed_by (get_or ends n.segment.piece 0 + gap (get_or ends n.segment.piece 0) n.alignment)) (sym (size_record.extent form));
        address =
            ap (λ (g : Segment). unwrap_or (slice_get list g.piece) None) size_record.segment
            ∙ ap (λ (os : List (Option ℕ)). unwrap_or (slice_get os l.segment.piece) None) w.addresses_are
            ∙ ap (λ (o : Option (Option ℕ)). unwrap_or o None) (prefix_at (map at_of parts) (opened size_records) l.segment.piece section.at at);
        region =
            ap (λ (rs : List (Option ℕ)). unwrap_or (slice_get rs l.segment.piece) None) w.regions_are
            ∙ ap (λ (o : Option (Option ℕ)). unwrap_or o None) at;
        own = w.piece.own;
        well = all_at IsWell parts l.segment.piece section w.piece.part w.wells;
      }

  module _ (last : List ℕ → Answer) (sum : ℕ) (f : IsFaultless look last regions sum l location) where
    abbrev next : Section
    next = section_after look l location section

    extends : Extends section ((location.place - location.before) + size_at location.place (content look location.form l.here l.action)) next
    extends =
        both_extend section (led l.segment.kind (location.place - location.before) section) next (location.place - location.before) (size_at location.place (content look location.form l.here l.action))
        (led_extends l.segment.kind (location.place - location.before) section)
        (put_extends l.line l.segment.kind location.place (content look location.form l.here l.action) (led l.segment.kind (location.place - location.before) section))

    fit : Fits (content look location.form l.here l.action) location section
    fit = fits look last regions sum l location section stands f

    next_length : next.length ≡ (section.length + (location.place - location.before)) + size_at location.place (content look location.form l.here l.action)
    next_length = omega (arith, extends.size)

    next_end : end_of_section next ≡ location.after
    next_end = (λ i. start_of (extends.at i) + next_length i) ∙ fit.ends

    next_well : IsWell next
    next_well = subst (λ (at : Option ℕ). Holds next.kind next.length at) (sym extends.at)
        (subst (λ (kind : SegKind). Holds kind next.length section.at) (sym extends.kind)
        (subst (λ (count : ℕ). Holds section.kind count section.at) (sym next_length) fit.well))

    -- behind its own bytes, before it opens a piece
    pub written : Standing l.segment (set ends n.segment.piece (end_of form ends n)) regions list size_records (set parts l.segment.piece next)
    written = record {
      ends_are =
          ap (λ (g : Segment). set ends g.piece (end_of form ends n)) size_record.segment
          ∙ ap (λ (es : List ℕ). set es l.segment.piece (end_of form ends n)) w.ends_are
          ∙ ap (λ (e : ℕ). set (map end_of_section parts) l.segment.piece e) (sym next_end)
          ∙ sym (mapped_set end_of_section parts l.segment.piece next);
      regions_are = w.regions_are ∙ sym (mapped_same at_of parts l.segment.piece section next w.piece.part extends.at);
      addresses_are = w.addresses_are ∙ ap (λ (os : List (Option ℕ)). os ++ opened size_records) (sym (mapped_same at_of parts l.segment.piece section next w.piece.part extends.at));
      count = w.count ∙ sym (length-set parts l.segment.piece next);
      piece = record {
        t = next;
        part = set_itself parts l.segment.piece section next w.piece.part;
        kind_is = extends.kind ∙ w.piece.kind_is;
        own = subst (λ (at : Option ℕ). IsOwn l.segment.piece next.kind at) (sym extends.at)
            (subst (λ (kind : SegKind). IsOwn l.segment.piece kind section.at) (sym extends.kind) w.piece.own);
      };
      heads = subst AreHeads (sym (mapped_same head_of parts l.segment.piece section next w.piece.part (λ i. (extends.kind i, extends.at i)))) w.heads;
      wells = all_set IsWell parts l.segment.piece next next_well w.wells;
    }

-- ---- a piece that is opened

module _ (look : Look) (unreported : AreUnreported look) (g : Segment) (ends : Ends) (regions : Regions) (list : List (Option ℕ)) (n : SizeRecord) (size_records : List SizeRecord) (parts : List Section)
    (w : Standing g ends regions list (n ∷ size_records) parts) where
  added : (o : Option ℕ) → n.opens ≡ o → list ≡ map at_of parts ++ address_added o (opened size_records)
  unfolding opened
  added o e = w.addresses_are ∙ ap (λ (p : Option ℕ). map at_of parts ++ address_added p (opened size_records)) e

  -- the same segment is in force
  pub still : n.opens ≡ None → Standing g (begun n.opens ends) regions list size_records parts
  still e = record {
    ends_are = ap (λ (o : Option ℕ). begun o ends) e ∙ w.ends_are;
    regions_are = w.regions_are;
    addresses_are = added None e;
    count = w.count;
    piece = w.piece;
    heads = w.heads;
    wells = w.wells;
  }

  back_again : (kind : SegKind) → is_stack kind ≡ false → n.opens ≡ None → Standing (segment_opened kind None g) (begun n.opens ends) regions list size_records parts
  back_again kind is e = record {
    ends_are = ap (λ (o : Option ℕ). begun o ends) e ∙ w.ends_are;
    regions_are = w.regions_are;
    addresses_are = added None e;
    count = w.count;
    piece = relocatable parts w.heads kind is;
    heads = w.heads;
    wells = w.wells;
  }

  pushed_address : (address : ℕ) → n.opens ≡ Some address → (kind : SegKind) → list ≡ map at_of (parts ++ blank kind (Some address) ∷ []) ++ opened size_records
  pushed_address address e kind =
      added (Some address) e
      ∙ sym (append_assoc (map at_of parts) (Some address ∷ []) (opened size_records))
      ∙ ap (λ (os : List (Option ℕ)). os ++ opened size_records) (sym (mapped_pushed at_of parts (blank kind (Some address))))

  begins_new : (kind : SegKind) (x : Tree) (address : ℕ) → n.opens ≡ Some address → in_region kind address 0 ≡ true
      → Standing (segment_opened kind (Some x) g) (begun n.opens ends) (regions ++ Some address ∷ []) list size_records (parts ++ blank kind (Some address) ∷ [])
  begins_new kind x address e inside =
      let here : address ≡ address + 0 = omega arith in
      record {
        ends_are =
            ap (λ (o : Option ℕ). begun o ends) e
            ∙ (λ i. w.ends_are i ++ here i ∷ [])
            ∙ sym (mapped_pushed end_of_section parts (blank kind (Some address)));
        regions_are = ap (λ (rs : List (Option ℕ)). rs ++ Some address ∷ []) w.regions_are ∙ sym (mapped_pushed at_of parts (blank kind (Some address)));
        addresses_are = pushed_address address e kind;
        count = let one : length (parts ++ blank kind (Some address) ∷ []) ≡ length parts + 1 = length-append parts (blank kind (Some address) ∷ []) in omega (arith, one, w.count);
        piece = record {
          t = blank kind (Some address);
          part = ap (λ (i : ℕ). slice_get (parts ++ blank kind (Some address) ∷ []) i) w.count ∙ last_at parts (blank kind (Some address));
          kind_is = refl;
          own = let three = three_pieces parts w.heads in omega (arith, w.count, three);
        };
        heads = subst AreHeads (sym (mapped_pushed head_of parts (blank kind (Some address)))) (pushed_heads (map head_of parts) kind address w.heads);
        wells = all_pushed IsWell parts (blank kind (Some address)) inside w.wells;
      }

  -- a directive that opens a piece of a kind
  pub goes_on_in : (kind : SegKind) → is_stack kind ≡ false → (at : Option Tree) → n.opens ≡ opened_at look at → part_faults look at ≡ [] → opening_faults (opening_of kind look at) ≡ []
      → Standing (segment_opened kind at g) (begun n.opens ends) (with_region (opening_of kind look at) regions) list size_records (with_opened kind (opened_at look at) parts)
  goes_on_in kind is None e values outside = back_again kind is e
  goes_on_in kind is (Some x) e values outside =
      let v = fixed_number look unreported x values in
      let inside : in_region kind v.0 0 ≡ true = not_false _ (sym (ap (is_outside kind) v.1) ∙ unless (is_outside kind (fixed_of look x)) 22 outside) in
      let region : region_at kind (fixed_of look x) ≡ Some v.0 = ap (region_at kind) v.1 ∙ ap (λ (b : Bool). cond b (Some v.0) None) inside in
      let opens_is : opened_at look (Some x) ≡ Some v.0 = ap (λ (o : Option ℕ). Some (unwrap_or o 0)) v.1 in
      let there = begins_new kind x v.0 (e ∙ opens_is) inside in
      subst (λ (o : Option ℕ). Standing (segment_opened kind (Some x) g) (begun n.opens ends) (regions ++ region_at kind (fixed_of look x) ∷ []) list size_records (with_opened kind o parts)) (sym opens_is)
      (subst (λ (o : Option ℕ). Standing (segment_opened kind (Some x) g) (begun n.opens ends) (regions ++ o ∷ []) list size_records (parts ++ blank kind (Some v.0) ∷ [])) (sym region) there)

  abbrev pub GoesOn : ActionTree → Type 0
  GoesOn action = Standing (segment_after g action) (begun n.opens ends) (regions_after look regions action) list size_records (with_opened (kind_opened action) (opens look action) parts)

  pub goes_on_behind : (action : ActionTree) → n.opens ≡ opens look action → faults_of look action ≡ [] → opening_faults (opening look action) ≡ [] → GoesOn action
  goes_on_behind (trees.Cseg at) e values outside = goes_on_in Code refl at e values outside
  goes_on_behind (trees.Dseg at) e values outside = goes_on_in Ram refl at e values outside
  goes_on_behind (trees.Rseg at) e values outside = goes_on_in Reg refl at e values outside
  goes_on_behind trees.Bare e values outside = still e
  goes_on_behind (trees.Module name stack) e values outside = still e
  goes_on_behind (trees.Sseg size) e values outside = still e
  goes_on_behind (trees.Public names) e values outside = still e
  goes_on_behind (trees.Extrn names) e values outside = still e
  goes_on_behind (trees.Equ name x) e values outside = still e
  goes_on_behind (trees.Set name x) e values outside = still e
  goes_on_behind (trees.Define size items) e values outside = still e
  goes_on_behind (trees.Reserve size x) e values outside = still e
  goes_on_behind (trees.Org x) e values outside = still e
  goes_on_behind trees.Even e values outside = still e
  goes_on_behind trees.End e values outside = still e
  goes_on_behind (trees.Operation word args) e values outside = still e

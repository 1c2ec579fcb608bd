-- All statements of a source without a fault, one behind the other.
use Rattle.std.proofs.Common.{◌≡◌, ℕ, zero, suc, ◌+◌, List, [], ◌∷◌, ◌++◌, map, drop, reverse, length, length-append, refl, sym, ap, ◌∙◌, subst, append_assoc, append-nil, arith}
use Rattle.std.specs.Prelude.{Option, Some, None, unwrap_or, slice_get, slice_set}
use Rattle.std.specs.List.{AllByRecursion}
use Rattle.kc_obj_module.specs.declared.parts.SegKind.TheVariants.{Code}
use Rattle.kc_expr.specs.declared.values.Value.{Value}
use Rattle.kc_expr.proofs.UnreportedLemmas.{AreUnreported}
use Rattle.kc_source_statement.specs.declared.statement.Stmt.{Stmt}
use Rattle.kc_source_statement.specs.Trees.{action_tree}
use Rattle.kc_asm_symbols.specs.declared.segments.Segment.{Segment}
use Rattle.kc_asm_symbols.specs.Located.{Located, located_at, located_from, value_at, first_segment, segment_after}
use Rattle.kc_asm_symbols.specs.Meanings.{meaning, in_all, earlier}
use Rattle.kc_asm_symbols.proofs.WalkLemmas.{located_length, further}
use Rattle.kc_branch.specs.declared.piece.Form.{Form}
use Rattle.kc_branch.specs.Forms.{head_form, forms}
use Rattle.kc_asm_section.specs.Section.{Section, blank}
use Rattle.kc_asm_emit.specs.Arguments.{Look}
use Rattle.kc_asm_layout.specs.declared.size_record.SizeRecord.{SizeRecord}
use Rattle.kc_asm_layout.specs.StatementSizes.{opens, statement_sizes}
use Rattle.kc_asm_layout.specs.SizesLaws.{IsSizeRecordOf, SizesStay, SizesHaveLengths}
use Rattle.kc_asm_layout.specs.declared.location.Location.{Location}
use Rattle.kc_asm_layout.specs.Places.{Ends, no_bytes, end_of, ends_after, addresses, location_of, locations_from}
use Rattle.kc_asm_layout.specs.Text.{text, statement_forms}
use Rattle.kc_asm_check.specs.Codes.{Regions, first_regions, regions_after, stack_after}
use Rattle.kc_asm_check.specs.Checking.{codes_of, first_fault, location_list, place_at, standing}
use Rattle.kc_asm_check.specs.Laws.{AreSound, SoundStatements}
use Rattle.kc_asm_unlinked_laws.specs.Collecting.{section_after, kind_opened, with_opened, first_section, parts_after, parts_from, first_parts}
use Rattle.kc_asm_unlinked_laws.proofs.Lists.{seam}
use Rattle.kc_asm_unlinked_laws.proofs.Unreported.{none_before, one_more_unreported, meaning_unreported, reverse_prefix}
use Rattle.kc_asm_unlinked_laws.proofs.Faultless.{IsFaultless, faultless}
use Rattle.kc_asm_unlinked_laws.proofs.Standing.{IsWell, StandsAt}
use Rattle.kc_asm_unlinked_laws.proofs.Going.{head_of, AreHeads, Standing, stands, written, goes_on_behind}

-- a statement without a fault stands behind a piece
pub record IsStep (all before : List Located) (regions : Regions) (sum : ℕ) (l : Located) (s : Location) (parts : List Section) : Type 0 where
  pub after : List Located
  pub split : all ≡ reverse before ++ l ∷ after
  pub unreported : AreUnreported (meaning all before l)
  pub faultless : IsFaultless (meaning all before l) (in_all all) regions sum l s
  pub t : Section
  pub part : slice_get parts l.segment.piece ≡ Some t
  pub stands : StandsAt (meaning all before l) regions l s t

-- so do all from one on
unfoldable pub AllSteps : List Located → Regions → ℕ → List Located → List Located → List Location → List Section → Type 0
AllSteps all regions sum before [] ss parts = Unit {0}
AllSteps all regions sum before (l ∷ ls) [] parts = ⊥
AllSteps all regions sum before (l ∷ ls) (s ∷ ss) parts =
    IsStep all before regions sum l s parts
    × AllSteps all (regions_after (meaning all before l) regions l.action) (stack_after (meaning all before l) sum l.action) (l ∷ before) ls ss (parts_after (meaning all before l) l s parts)

-- what is so of the pieces behind the last statement
pub record AreDone (parts : List Section) : Type 0 where
  pub heads : AreHeads (map head_of parts)
  pub wells : AllByRecursion IsWell parts

-- ---- names

other_length : {n : ℕ} → zero ≡ suc n → ⊥
other_length {n} e = omega arith

pub all_unreported : (all : List Located) (regions : Regions) (sum : ℕ) (before ls : List Located) (ss : List Location) → length ss ≡ length ls
    → AreSound all regions sum before ls ss → AreUnreported (earlier all before) → AreUnreported (earlier all (reverse ls ++ before))
unfolding AreSound
all_unreported all regions sum before [] ss e sound h = h
all_unreported all regions sum before (l ∷ ls) [] e sound h = absurd (other_length e)
all_unreported all regions sum before (l ∷ ls) (s ∷ ss) e sound h =
    let look = meaning all before l in
    let f = faultless look (in_all all) regions sum l s sound.0 in
    subst (λ (b : List Located). AreUnreported (earlier all b)) (reverse_prefix l ls before)
    (all_unreported all (regions_after look regions l.action) (stack_after look sum l.action) (l ∷ before) ls ss (let q : length ss ≡ length ls = omega (arith, e) in q) sound.1
    (one_more_unreported all before l h f.values))

-- ---- the walk

module _ (all : List Located) (list : List (Option ℕ)) (whole : List SizeRecord) (values : ℕ → Segment → Value)
    (noted : (before after : List Located) (l : Located) → all ≡ reverse before ++ l ∷ after → (n : SizeRecord) → slice_get whole (length before) ≡ Some n → IsSizeRecordOf n all before l)
    (last : AreUnreported (in_all all)) where
  size_record_at : (before after : List Located) (l : Located) (pre size_records : List SizeRecord) (n : SizeRecord) → all ≡ reverse before ++ l ∷ after → whole ≡ pre ++ n ∷ size_records → length pre ≡ length before → IsSizeRecordOf n all before l
  size_record_at before after l pre size_records n split is long =
      noted before after l split n ((λ i. slice_get (is i) (sym long i)) ∙ seam pre size_records n)

  -- one statement
  module _ (before after : List Located) (l : Located) (split : all ≡ reverse before ++ l ∷ after) (unreported : AreUnreported (earlier all before))
      (n : SizeRecord) (size_record : IsSizeRecordOf n all before l) (form : Form) (ends : Ends) (regions : Regions) (sum : ℕ) (size_records : List SizeRecord) (parts : List Section)
      (w : Standing l.segment ends regions list (n ∷ size_records) parts)
      (codes : codes_of (meaning all before l) (in_all all) regions sum l (location_of list form ends n) ≡ []) where
    abbrev look : Look
    look = meaning all before l

    abbrev location : Location
    location = location_of list form ends n

    free : IsFaultless look (in_all all) regions sum l location
    free = faultless look (in_all all) regions sum l location codes

    known : AreUnreported look
    known = meaning_unreported all before l unreported last

    step : IsStep all before regions sum l location parts
    step = record {
      after = after;
      split = split;
      unreported = known;
      faultless = free;
      t = w.piece.t;
      part = w.piece.part;
      stands = stands all before l n size_record form ends regions list (n ∷ size_records) parts w;
    }

    grown : Standing (segment_after l.segment l.action) (ends_after form ends n) (regions_after look regions l.action) list size_records (parts_after look l location parts)
    grown = subst (λ (o : Option Section). Standing (segment_after l.segment l.action) (ends_after form ends n) (regions_after look regions l.action) list size_records
        (with_opened (kind_opened l.action) (opens look l.action) (slice_set parts l.segment.piece (section_after look l location (unwrap_or o first_section))))) (sym w.piece.part)
        (goes_on_behind look known l.segment (slice_set ends n.segment.piece (end_of form ends n)) regions list n size_records (slice_set parts l.segment.piece (section_after look l location w.piece.t))
        (written all before l n size_record form ends regions list (n ∷ size_records) parts w (in_all all) sum free) l.action size_record.opens free.values free.opens)

  pub walk : (i : ℕ) (g : Segment) (tail : List Stmt) (before : List Located) (pre size_records : List SizeRecord) (fs : List Form) (ends : Ends) (regions : Regions) (sum : ℕ) (parts : List Section)
      → all ≡ reverse before ++ located_from values i g tail → whole ≡ pre ++ size_records → length pre ≡ length before → length size_records ≡ length tail
      → AreUnreported (earlier all before)
      → AreSound all regions sum before (located_from values i g tail) (locations_from list fs ends size_records)
      → Standing g ends regions list size_records parts
      → AllSteps all regions sum before (located_from values i g tail) (locations_from list fs ends size_records) parts
      × AreDone (parts_from all before (located_from values i g tail) (locations_from list fs ends size_records) parts)
  unfolding located_from locations_from AreSound AllSteps parts_from
  walk i g [] before pre size_records fs ends regions sum parts split is long same unreported sound w = (tt, record { heads = w.heads; wells = w.wells })
  walk i g (s ∷ ss) before pre [] fs ends regions sum parts split is long same unreported sound w = absurd (other_length same)
  walk i g (s ∷ ss) before pre (n ∷ size_records) fs ends regions sum parts split is long same unreported sound w =
      let l = located_at g (values i g) s in
      let after = located_from values (i + 1) (segment_after g (action_tree s.action)) ss in
      let look = meaning all before l in
      let form = head_form fs in
      let size_record = size_record_at before after l pre size_records n split is long in
      let free = faultless look (in_all all) regions sum l (location_of list form ends n) sound.0 in
      let rest = walk (i + 1) (segment_after g l.action) ss (l ∷ before) (pre ++ n ∷ []) size_records (drop 1 fs) (ends_after form ends n) (regions_after look regions l.action) (stack_after look sum l.action)
      (parts_after look l (location_of list form ends n) parts) (further all before after l split) (is ∙ sym (append_assoc pre (n ∷ []) size_records))
      (let q : length (pre ++ n ∷ []) ≡ length pre + 1 = length-append pre (n ∷ []) in let r : length (pre ++ n ∷ []) ≡ suc (length before) = omega (arith, q, long) in r)
      (let r : length size_records ≡ length ss = omega (arith, same) in r)
      (one_more_unreported all before l unreported free.values) sound.1
      (grown before after l split unreported n size_record form ends regions sum size_records parts w sound.0) in
      ((step before after l split unreported n size_record form ends regions sum size_records parts w sound.0, rest.0), rest.1)

-- ---- a whole source

pub locations_length : (list : List (Option ℕ)) (fs : List Form) (ends : Ends) (size_records : List SizeRecord) → length (locations_from list fs ends size_records) ≡ length size_records
unfolding locations_from
locations_length list fs ends [] = refl
locations_length list fs ends (n ∷ size_records) = ap suc (locations_length list (drop 1 fs) (ends_after (head_form fs) ends n) size_records)

first_standing : (size_records : List SizeRecord) → Standing first_segment no_bytes first_regions (addresses size_records) size_records first_parts
first_standing size_records = record {
  ends_are = refl;
  regions_are = refl;
  addresses_are = refl;
  count = refl;
  piece = record { t = blank Code None; part = refl; kind_is = refl; own = (refl, omega arith) };
  heads = record { rest = []; first = refl; absolute = refl };
  wells = (omega arith, (omega arith, (omega arith, tt)));
}

pub record IsWalked (stmts : List Stmt) : Type 0 where
  pub steps : AllSteps (standing stmts) first_regions 0 [] (standing stmts) (location_list stmts) first_parts
  pub done : AreDone (parts_from (standing stmts) [] (standing stmts) (location_list stmts) first_parts)
  pub last : AreUnreported (in_all (standing stmts))

pub walked : SizesStay → SizesHaveLengths → SoundStatements → (stmts : List Stmt) → first_fault stmts ≡ None → IsWalked stmts
walked stay lengths statements stmts none =
    let all = standing stmts in
    let size_records = statement_sizes stmts in
    let fs = statement_forms (forms (text size_records)) size_records in
    let sound = statements stmts none in
    let count = locations_length (addresses size_records) fs no_bytes size_records ∙ lengths stmts ∙ sym (located_length (λ i g. value_at g (place_at (location_list stmts) i)) 0 first_segment stmts) in
    let unreported = subst (λ (b : List Located). AreUnreported (earlier all b)) (append-nil (reverse all)) (all_unreported all first_regions 0 [] all (location_list stmts) count sound (none_before all)) in
    let w = walk all (addresses size_records) size_records (λ i g. value_at g (place_at (location_list stmts) i)) (λ before after l split n at. stay stmts (place_at (location_list stmts)) before after l split n at) unreported
    0 first_segment stmts [] [] size_records fs no_bytes first_regions 0 first_parts refl refl refl (lengths stmts) (none_before all) sound (first_standing size_records) in
    record { steps = w.0; done = w.1; last = unreported }

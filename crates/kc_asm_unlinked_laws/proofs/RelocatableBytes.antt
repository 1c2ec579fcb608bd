-- What the relocatable bytes of a source without a fault are: whole numbers from bases that exist, in code.
use Rattle.std.proofs.Common.{◌≡◌, ℕ, ◌+◌, ◌<◌, Bool, true, false, ◌&&◌, ◌||◌, cond, eqb, ltb, leb, eq-eqb, List, [], ◌∷◌, ◌++◌, length, refl, sym, ap, ◌∙◌, subst, append_assoc, append-nil, arith}
use Rattle.std.specs.Prelude.{Option, Some, None, ◌==◌, nat_lt, nat_le}
use Rattle.std.specs.List.{list_all, AllByRecursion}
use Rattle.std.proofs.lemmas.Bool.{and_parts}
use Rattle.std.proofs.lemmas.Bool.Decides.{nat_tests}
use Rattle.std.proofs.lemmas.List.Folds.{list_all-append}
use Rattle.std.proofs.lemmas.List.Sums.{AllPass-from_list_all}
use Rattle.kc_expr.specs.declared.values.Base.TheVariants.{Absolute, Piece, External}
use Rattle.kc_expr.specs.declared.values.Value.{Value}
use Rattle.kc_expr.specs.Meaning.{here}
use Rattle.kc_obj_module.specs.declared.parts.SegKind.{SegKind}
use Rattle.kc_obj_module.specs.declared.parts.SegKind.TheVariants.{Code}
use Rattle.kc_obj_module.specs.Pieces.{kind_number}
use Rattle.kc_obj_module.specs.Numbers.{width}
use Rattle.kc_obj_module.specs.Fixups.{may_begin}
use Rattle.kc_asm_encode.specs.declared.relocatable_byte.RelocatableByte.{RelocatableByte}
use Rattle.kc_asm_encode.specs.declared.relocatable_byte.RelocatableByte.TheVariants.{Plain, First, Second}
use Rattle.kc_source_statement.specs.declared.statement.Stmt.{Stmt}
use Rattle.kc_source_statement.specs.Trees.{action_tree}
use Rattle.kc_asm_symbols.specs.declared.segments.Segment.{Segment}
use Rattle.kc_asm_symbols.specs.Located.{Located, located_from, value_at, base_of, is_absolute, segment_after, first_segment}
use Rattle.kc_asm_symbols.specs.Externals.{externals}
use Rattle.kc_asm_symbols.specs.Meanings.{meaning}
use Rattle.kc_asm_symbols.specs.Known.{MeaningsAreKnown, BasesAreKnown}
use Rattle.kc_asm_symbols.specs.Reported.{stands_well}
use Rattle.kc_asm_encode.specs.Pairs.{Pending, opens, IsPairedFrom, IsPaired}
use Rattle.kc_asm_section.specs.declared.part.PlacedByte.{PlacedByte}
use Rattle.kc_asm_section.specs.declared.part.Mark.{Mark}
use Rattle.kc_asm_section.specs.Section.{Section, is_section, placed_byte, mark, blank, put, skipped, laid, begun, written}
use Rattle.kc_asm_section.specs.Writing.{WrittenStands, marks_after}
use Rattle.kc_asm_section.specs.UnlinkedModules.{base_exists, is_relocatable_byte, BeginsWithSecond, IsComplete, AreRelocatableBytes, holds_code, IsPart}
use Rattle.kc_asm_emit.specs.Bases as said
use Rattle.kc_asm_emit.specs.Bases.{ContentsAreRelocatableBytes}
use Rattle.kc_asm_emit.specs.Pairing.{ArePaired, ContentsArePaired}
use Rattle.kc_asm_emit.specs.Content.{RelocatableBytes, content}
use Rattle.kc_asm_layout.specs.declared.location.Location.{Location}
use Rattle.kc_asm_check.specs.Codes.{Regions}
use Rattle.kc_asm_check.specs.Checking.{standing, location_list, place_at}
use Rattle.kc_asm_unlinked_laws.specs.Collecting.{first_parts, parts_from}
use Rattle.kc_asm_unlinked_laws.proofs.Lists.{split_test}
use Rattle.kc_asm_unlinked_laws.proofs.Taping.{written_extends}
use Rattle.kc_asm_unlinked_laws.proofs.Walking.{AllSteps}
use Rattle.kc_asm_unlinked_laws.proofs.Keeping.{IsAhead, kept}
use Rattle.kc_asm_unlinked_laws.proofs.Read.{can_report, line_reported, code_alone}

-- ---- placed bytes one after the other

abbrev pub numbered : ℕ → List RelocatableByte → List PlacedByte
numbered from [] = []
numbered from (o ∷ os) = placed_byte from o ∷ numbered (from + 1) os

pub laid_placed_bytes : (os : List RelocatableByte) (t : Section) → (laid os t).placed_bytes ≡ t.placed_bytes ++ numbered t.length os
unfolding laid
laid_placed_bytes [] t = sym (append-nil t.placed_bytes)
laid_placed_bytes (o ∷ os) t = laid_placed_bytes os (put o t) ∙ append_assoc t.placed_bytes (placed_byte t.length o ∷ []) (numbered (t.length + 1) os)

pub written_placed_bytes : (line : ℕ) (os : List RelocatableByte) (t : Section) → (written line os t).placed_bytes ≡ t.placed_bytes ++ numbered t.length os
written_placed_bytes line [] t = sym (append-nil t.placed_bytes)
written_placed_bytes line (o ∷ os) t = laid_placed_bytes os (begun line o t) ∙ append_assoc t.placed_bytes (placed_byte t.length o ∷ []) (numbered (t.length + 1) os)

-- ---- whole numbers

second_in_front : (kind offset : ℕ) (v : Value) (cs ds : List PlacedByte) → BeginsWithSecond kind offset v cs → BeginsWithSecond kind offset v (cs ++ ds)
second_in_front kind offset v [] ds h = absurd h
second_in_front kind offset v (c ∷ cs) ds h = h

complete_in_front : (offset : ℕ) (o : RelocatableByte) (cs ds : List PlacedByte) → IsComplete (placed_byte offset o) cs → IsComplete (placed_byte offset o) (cs ++ ds)
complete_in_front offset (Plain b) cs ds h = tt
complete_in_front offset (First kind start v) cs ds h = λ w. second_in_front kind (offset + 1) v cs ds (h w)
complete_in_front offset (Second kind v) cs ds h = tt

joined : (count : ℕ) (cs ds : List PlacedByte) → AreRelocatableBytes count cs → AreRelocatableBytes count ds → AreRelocatableBytes count (cs ++ ds)
unfolding AreRelocatableBytes
joined count [] ds h k = k
joined count (c ∷ cs) ds h k = (h.0, complete_in_front c.offset c.relocatable_byte cs ds h.1, joined count cs ds h.2 k)

begins_with : (offset kind : ℕ) (v : Value) (os : List RelocatableByte) → IsPairedFrom (Some (kind, v)) os → BeginsWithSecond kind offset v (numbered offset os)
begins_with offset kind v [] h = absurd (cc h)
begins_with offset kind v (Plain b ∷ os) h = absurd h.0
begins_with offset kind v (First k start w ∷ os) h = absurd h.0
begins_with offset kind v (Second k w ∷ os) h = λ i. placed_byte offset (Second (sym h.0.0 i) (sym h.0.1 i))

complete_here : (offset : ℕ) (o : RelocatableByte) (os : List RelocatableByte) → IsPairedFrom (opens o) os → IsComplete (placed_byte offset o) (numbered (offset + 1) os)
complete_here offset (Plain b) os h = tt
complete_here offset (Second kind v) os h = tt
complete_here offset (First kind start v) os h = λ w.
    let pending : opens (First kind start v) ≡ Some (kind, v) = ap (λ (b : Bool). cond {A = Pending} b (Some (kind, v)) None) (eq-eqb (width kind) 2 w) in
    begins_with (offset + 1) kind v os (subst (λ (p : Pending). IsPairedFrom p os) pending h)

whole_numbers : (count offset : ℕ) (p : Pending) (os : List RelocatableByte) → list_all (is_relocatable_byte count) os ≡ true → IsPairedFrom p os → AreRelocatableBytes count (numbered offset os)
unfolding AreRelocatableBytes
whole_numbers count offset p [] all h = tt
whole_numbers count offset p (o ∷ os) all h =
    let parts = and_parts (is_relocatable_byte count o) (list_all (is_relocatable_byte count) os) all in
    (parts.0, complete_here offset o os h.1, whole_numbers count (offset + 1) (opens o) os parts.1 h.1)

moved : (a b c : Bool) → (a && (b && c)) ≡ true → (a && b && c) ≡ true
moved true b c e = e
moved false b c e = absurd (cc e)

same_relocatable : (count : ℕ) (o : RelocatableByte) → said.is_relocatable_byte (base_exists count) o ≡ true → is_relocatable_byte count o ≡ true
same_relocatable count (Plain b) e = refl
same_relocatable count (First kind start v) e = moved (nat_le kind 4) (may_begin kind (Some start)) (base_exists count v.base) e
same_relocatable count (Second kind v) e = refl

same_relocatables : (count : ℕ) (os : List RelocatableByte) → list_all (said.is_relocatable_byte (base_exists count)) os ≡ true → list_all (is_relocatable_byte count) os ≡ true
same_relocatables count [] e = refl
same_relocatables count (o ∷ os) e =
    let parts = and_parts (said.is_relocatable_byte (base_exists count) o) (list_all (said.is_relocatable_byte (base_exists count)) os) e in
    (λ i. same_relocatable count o parts.0 i && same_relocatables count os parts.1 i)

-- ---- bases that exist

base_known : (count : ℕ) (g : Segment) → base_exists count (base_of g) ≡ true
base_known count g = by (is_absolute g) refl
  where
    by : (b : Bool) → is_absolute g ≡ b → base_exists count (cond b Absolute (Piece g.piece)) ≡ true
    by true e = refl
    by false e = let h : leb 3 g.piece ≡ false = e in let k : ltb g.piece 3 ≡ true = grind (arith, nat_tests) in k

places_known : (count : ℕ) (places : ℕ → ℕ) (i : ℕ) (g : Segment) (ss : List Stmt) → list_all (λ l. base_exists count l.here.base) (located_from (λ i g. value_at g (places i)) i g ss) ≡ true
unfolding located_from
places_known count places i g [] = refl
places_known count places i g (s ∷ ss) = (λ j. base_known count g j && places_known count places (i + 1) (segment_after g (action_tree s.action)) ss j)

external_known : (count e : ℕ) → e < count → base_exists count (External e) ≡ true
external_known count e h = let k : ltb e count ≡ true = grind (arith, nat_tests) in k

pub names_known : BasesAreKnown → (stmts : List Stmt) → MeaningsAreKnown (base_exists (length (externals (standing stmts)))) (standing stmts)
names_known known stmts =
    let count = length (externals (standing stmts)) in
    known (base_exists count) refl refl (standing stmts) (external_known count)
    (AllPass-from_list_all (λ (l : Located). base_exists count l.here.base) (standing stmts) (places_known count (place_at (location_list stmts)) 0 first_segment stmts))

-- ---- code

in_code : (t : Section) → t.kind ≡ Code → holds_code t ≡ true
in_code t e = ap (λ (k : SegKind). eqb (kind_number k) 1 || ((length t.placed_bytes == 0) && (length t.marks == 0))) e

or_true : (b : Bool) → (b || true) ≡ true
or_true true = refl
or_true false = refl

-- ---- parts

module _ (count : ℕ) where
  blank_part : (kind : SegKind) (at : Option ℕ) → IsPart count (blank kind at)
  unfolding AreRelocatableBytes
  blank_part kind at = record { code = or_true (eqb (kind_number kind) 1); relocatable_bytes = tt; lines = refl }

  skipped_part : (n : ℕ) (t : Section) → IsPart count t → IsPart count (skipped n t)
  skipped_part n t h = record { code = h.code; relocatable_bytes = h.relocatable_bytes; lines = h.lines }

  one_plain : (offset byte : ℕ) → AreRelocatableBytes count (placed_byte offset (Plain byte) ∷ [])
  unfolding AreRelocatableBytes
  one_plain offset byte = (refl, tt, tt)

  filled_part : (t : Section) → t.kind ≡ Code → is_section t ≡ true → IsPart count t → IsPart count (put (Plain 255) t)
  filled_part t code is h = record {
    code = in_code (put (Plain 255) t) code;
    relocatable_bytes = joined count t.placed_bytes (placed_byte t.length (Plain 255) ∷ []) h.relocatable_bytes (one_plain t.length 255);
    lines = h.lines;
  }

  marked : (line : ℕ) (os : List RelocatableByte) (t : Section) → nat_lt 0 line ≡ true → list_all (λ m. nat_lt 0 m.line) t.marks ≡ true → list_all (λ m. nat_lt 0 m.line) (marks_after line os t) ≡ true
  marked line [] t h k = k
  marked line (o ∷ os) t h k =
      list_all-append (λ (m : Mark). nat_lt 0 m.line) t.marks (mark t.length line ∷ []) ∙ (λ i. k i && (h i && true))

  module _ (written_stands : WrittenStands) (paired : ContentsArePaired) (relocatable_bytes : ContentsAreRelocatableBytes) (all : List Located) (known : MeaningsAreKnown (base_exists count) all)
      (reported : list_all can_report all ≡ true) (well : list_all stands_well all ≡ true) where
    written_part : (before : List Located) (regions : Regions) (sum : ℕ) (l : Located) (s : Location) (parts : List Section) (u : Section) → IsAhead all before regions sum l s parts u → IsPart count u
        → (os : List RelocatableByte) → content (meaning all before l) s.form l.here l.action ≡ RelocatableBytes os → IsPart count (written l.line os u)
    written_part before regions sum l s parts u a h os is =
        let look = meaning all before l in
        let names = known.at before a.step.after l a.step.split in
        let place : base_exists count l.here.base ≡ true = names here in
        let bytes : list_all (said.is_relocatable_byte (base_exists count)) os ≡ true = subst (said.AreRelocatableBytes (base_exists count)) is (relocatable_bytes (base_exists count) refl refl look names s.form l.here place l.action) in
        let pairs : IsPaired os = subst ArePaired is (paired look s.form l.here l.action) in
        let code : l.segment.kind ≡ Code = code_alone look s.form l os (split_test stands_well all before a.step.after l well a.step.split).1 is in
        let kind : (written l.line os u).kind ≡ Code = (written_extends l.line os u).kind ∙ a.behind.kind ∙ a.step.stands.kind ∙ code in
        let line : nat_lt 0 l.line ≡ true = line_reported l (split_test can_report all before a.step.after l reported a.step.split).1 in
        record {
          code = in_code (written l.line os u) kind;
          relocatable_bytes = subst (AreRelocatableBytes count) (sym (written_placed_bytes l.line os u)) (joined count u.placed_bytes (numbered u.length os) h.relocatable_bytes (whole_numbers count u.length None os (same_relocatables count os bytes) pairs));
          lines = ap (λ (ms : List Mark). list_all (λ m. nat_lt 0 m.line) ms) (written_stands u a.is l.line os).1 ∙ marked l.line os u line h.lines;
        }

    only_parts : (ts : List Section) → AllByRecursion (λ t. (is_section t ≡ true) × IsPart count t) ts → AllByRecursion (IsPart count) ts
    only_parts [] h = tt
    only_parts (t ∷ ts) h = (h.0.1, only_parts ts h.1)

    pub all_parts : (regions : Regions) (ls : List Located) (ss : List Location) → AllSteps all regions 0 [] ls ss first_parts → AllByRecursion (IsPart count) (parts_from all [] ls ss first_parts)
    all_parts regions ls ss steps = only_parts (parts_from all [] ls ss first_parts) (kept all (IsPart count) blank_part skipped_part filled_part written_part regions ls ss steps)

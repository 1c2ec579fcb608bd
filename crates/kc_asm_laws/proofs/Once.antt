-- Each byte of the module of a source is shown by one statement of its listing.
use Rattle.std.proofs.Common.{◌≡◌, ℕ, ◌==◌, true, List, [], map, refl, sym, ap, ◌∙◌, subst}
use Rattle.std.specs.Prelude.{count_by, Option, Some, None, is_some, slice_get}
use Rattle.std.specs.Option.{option_map}
use Rattle.kc_lex.specs.declared.token.Line.{Line}
use Rattle.kc_source_statement.specs.declared.statement.Stmt.{Stmt}
use Rattle.kc_source.specs.Faults.{stmt_said, all_said, least, AreStatements}
use Rattle.kc_obj_module.specs.declared.parts.SegKind.{SegKind}
use Rattle.kc_obj_module.specs.declared.parts.Segment.{Segment as ModuleSegment}
use Rattle.kc_obj_module.specs.Object.{Object}
use Rattle.kc_obj_module.specs.Contents.{content_at}
use Rattle.kc_asm_symbols.specs.Located.{value_at, first_segment}
use Rattle.kc_asm_encode.specs.declared.relocatable_byte.RelocatableByte.{RelocatableByte}
use Rattle.kc_asm_section.specs.declared.unlinked.UnlinkedModule.{UnlinkedModule}
use Rattle.kc_asm_section.specs.Section.{Section, is_section, relocatable_byte_at}
use Rattle.kc_asm_section.specs.Writing.{WrittenStands, PutStands}
use Rattle.kc_asm_section.specs.ModuleOf.{byte_at, kept_in, pieces_in, IsModuleOf}
use Rattle.kc_asm_section.specs.Puts.{byte_for}
use Rattle.kc_branch.specs.Forms.{forms}
use Rattle.kc_asm_layout.specs.StatementSizes.{statement_sizes}
use Rattle.kc_asm_layout.specs.SizesLaws.{SizesStay, SizesHaveLengths}
use Rattle.kc_asm_layout.specs.Places.{no_bytes, addresses}
use Rattle.kc_asm_layout.specs.Text.{statement_forms, text}
use Rattle.kc_asm_check.specs.Codes.{first_regions}
use Rattle.kc_asm_check.specs.Checking.{first_fault, faults_from, location_list, place_at, standing}
use Rattle.kc_asm_check.specs.Laws.{SoundStatements}
use Rattle.kc_asm_unlinked_laws.specs.Collecting.{parts_from, first_parts, IsUnlinkedModuleOf}
use Rattle.kc_asm_unlinked_laws.proofs.Lists.{all_at}
use Rattle.kc_asm_unlinked_laws.proofs.Going.{head_of, AreHeads}
use Rattle.kc_asm_unlinked_laws.proofs.Walking.{walked, locations_length}
use Rattle.kc_asm_unlinked_laws.proofs.Keeping.{kept}
use Rattle.kc_asm_laws.proofs.Alike.{standing_alike, locations_alike, unlinked_alike}
use Rattle.kc_asm_list.specs.Spots.{spots_of}
use Rattle.kc_asm_laws.specs.Shown.{shows, EachByteIsShownOnce}
use Rattle.kc_asm_laws.proofs.One.{one_text}
use Rattle.kc_asm_laws.proofs.Pieces.{number_in, IsOwnKind, pieces_are}
use Rattle.kc_asm_laws.proofs.Counted.{Anything, seen, counted_once}
use Rattle.kc_asm_symbols.proofs.WalkLemmas.{located_length}
use Rattle.kc_asm_laws.proofs.AllSpots.{spots_counted, segments_alike, said_length}

-- a byte of a module is a relocatable byte of a piece

record IsRelocatableByte (o : Option Section) (offset : ℕ) : Type 0 where
  t : Section
  piece : o ≡ Some t
  relocatable_byte : RelocatableByte
  there : relocatable_byte_at t offset ≡ Some relocatable_byte

no_byte : (b : ℕ) → None ≡ Some b → ⊥
no_byte b e = cc e

relocatable_of : (o : Option Section) (offset b : ℕ) → byte_at o offset ≡ Some b → IsRelocatableByte o offset
relocatable_of None offset b e = absurd (no_byte b e)
relocatable_of (Some t) offset b e = by (relocatable_byte_at t offset) refl e
  where
    by : (x : Option RelocatableByte) → relocatable_byte_at t offset ≡ x → option_map (byte_for t offset) x ≡ Some b → IsRelocatableByte (Some t) offset
    by None f e = absurd (no_byte b e)
    by (Some x) f e = record { t = t; piece = refl; relocatable_byte = x; there = f }

some_mapped : (f : RelocatableByte → ℕ) (x : Option RelocatableByte) → is_some (option_map f x) ≡ is_some x
some_mapped f None = refl
some_mapped f (Some x) = refl

module _ (written_stands : WrittenStands) (put_stands : PutStands) (stay : SizesStay) (lengths : SizesHaveLengths) (statements : SoundStatements) where
  shown_once : (stmts : List Stmt) (d : UnlinkedModule) (m : Object) → first_fault stmts ≡ None → IsUnlinkedModuleOf stmts d → IsModuleOf d m
      → (lines : List Line) (ds : List ℕ) → AreStatements stmts lines → (piece offset byte : ℕ) → content_at m.contents piece offset ≡ Some byte
      → count_by (shows m piece offset) (spots_of lines ds stmts) ≡ 1
  shown_once stmts d m none collected made lines ds are piece offset byte stands =
      let all = standing stmts in
      let ss = location_list stmts in
      let w = walked stay lengths statements stmts none in
      let ends = parts_from all [] all ss first_parts in
      let relocatable_byte = relocatable_of (slice_get (pieces_in d) piece) offset byte (sym (made.contents piece offset) ∙ stands) in
      let heads : AreHeads (map head_of d.parts.items) = subst (λ (ps : List Section). AreHeads (map head_of ps)) (sym collected.parts) w.done.heads in
      let its = pieces_are d.parts.items heads (kept_in d) d.stack piece relocatable_byte.t offset relocatable_byte.relocatable_byte relocatable_byte.piece relocatable_byte.there in
      let last : slice_get ends its.part ≡ Some relocatable_byte.t = ap (λ (ps : List Section). slice_get ps its.part) (sym collected.parts) ∙ its.is in
      let sections = kept all Anything (λ kind at. tt) (λ n x a. tt) (λ x code b a. tt) (λ b rs x y z ps u a q os f. tt) first_regions all ss w.steps in
      let section : is_section relocatable_byte.t ≡ true = (all_at (λ (x : Section). (is_section x ≡ true) × Anything x) ends its.part relocatable_byte.t last sections).0 in
      let holds : (k : ℕ) → is_some (content_at m.contents piece k) ≡ is_some (relocatable_byte_at relocatable_byte.t k) =
      λ k. ap is_some (made.contents piece k ∙ ap (λ (o : Option Section). byte_at o k) relocatable_byte.piece) ∙ some_mapped (byte_for relocatable_byte.t k) (relocatable_byte_at relocatable_byte.t k) in
      let alone : (p : ℕ) (kind : SegKind) → IsOwnKind p kind → (number_in p kind m.segments == piece) ≡ (p == its.part) =
      λ p kind own. ap (λ (gs : List ModuleSegment). number_in p kind gs == piece) made.segments ∙ its.alone p kind own in
      let there : is_some (relocatable_byte_at relocatable_byte.t offset) ≡ true = ap is_some relocatable_byte.there in
      let size_records = statement_sizes stmts in
      let count = locations_length (addresses size_records) (statement_forms (forms (text size_records)) size_records) no_bytes size_records in
      let located = located_length (λ i g. value_at g (place_at ss i)) 0 first_segment stmts in
      let alike = segments_alike all size_records (λ before after l split n at. (stay stmts (place_at ss) before after l split n at).segment) [] all [] size_records refl refl refl (lengths stmts ∙ sym located) in
      spots_counted (shows m piece offset) (seen written_stands put_stands m piece offset its.part relocatable_byte.t there holds alone) (λ l depth n s. refl) lines ds size_records ss all
      (said_length stmts lines are ∙ sym (lengths stmts)) count alike
      ∙ counted_once written_stands put_stands m piece offset its.part relocatable_byte.t there holds alone all first_regions all ss w.steps section last

  pub each_once : EachByteIsShownOnce
  each_once source listed m is whole piece offset byte stands =
      let said = whole.said in
      let same : said.0 ≡ is.text = one_text source said.1.0 is.lines said.0 is.text said.1.1 is.is_text.0 said.1.2 is.is_text.1 in
      let alike : map stmt_said whole.stmts ≡ map stmt_said is.stmts = said.2.said_by ∙ ap all_said same ∙ sym is.said.said_by in
      let stood = standing_alike whole.stmts is.stmts alike in
      let locations = locations_alike whole.stmts is.stmts alike in
      let none : first_fault is.stmts ≡ None = sym (λ i. least (faults_from (stood i) first_regions 0 [] (stood i) (locations i))) ∙ whole.sound in
      shown_once is.stmts whole.unlinked m none (unlinked_alike whole.stmts is.stmts alike whole.unlinked whole.collected) whole.made is.text is.depths is.said piece offset byte stands

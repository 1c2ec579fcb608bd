-- The image that is filled from the modules of sources is linked.
use Rattle.std.proofs.Common.{◌≡◌, ℕ, zero, suc, ◌+◌, ◌-◌, ◌%◌, ◌<◌, true, List, [], ◌∷◌, length, refl, sym, ap, ◌∙◌, subst, inl, inr, arith}
use Rattle.std.specs.Prelude.{Some, slice_get}
use Rattle.std.specs.List.{list_all}
use Rattle.std.proofs.lemmas.Option.{slice_get_within}
use Rattle.kc_source_statement.specs.declared.statement.Stmt.{Stmt}
use Rattle.kc_source_statement.specs.Formed.{is_formed, StatementsAreFormed}
use Rattle.kc_asm_symbols.specs.Located.{Located, first_segment, value_at}
use Rattle.kc_asm_symbols.specs.Meanings.{meaning}
use Rattle.kc_obj_module.specs.Object.{Object}
use Rattle.kc_obj_module.specs.Numbers.{Bases}
use Rattle.kc_asm_encode.specs.declared.relocatable_byte.RelocatableByte.{RelocatableByte}
use Rattle.kc_asm_encode.specs.declared.relocatable_byte.RelocatableByte.TheVariants.{Plain}
use Rattle.kc_asm_encode.specs.Filling.{fill}
use Rattle.kc_asm_section.specs.declared.unlinked.UnlinkedModule.{UnlinkedModule}
use Rattle.kc_asm_section.specs.Section.{Section}
use Rattle.kc_asm_section.specs.UnlinkedModules.{IsUnlinkedModule}
use Rattle.kc_asm_section.specs.Order.{start_of}
use Rattle.kc_asm_section.specs.Numbers.{NumbersStand}
use Rattle.kc_link_place.specs.Placing.{Places, bases_of}
use Rattle.kc_asm_unlinked_laws.specs.Parts.{start, part_bases}
use Rattle.kc_asm_unlinked_laws.specs.Linked.{HoldsUnlinkedModule, FitsUnlinkedModule, StandsAbsolute, AreModulesOf, AreSettled, AreLinked, IsCovered, UnlinkedModulesAreLinked, HeldIsRead, NumbersFit, AbsolutePartsStand}
use Rattle.kc_asm_emit.specs.Content.{Content, content, RelocatableBytes}
use Rattle.kc_asm_emit.specs.Faults.{faults_of}
use Rattle.kc_asm_layout.specs.declared.location.Location.{Location}
use Rattle.kc_asm_check.specs.Codes.{first_regions}
use Rattle.kc_asm_check.specs.Checking.{location_list, standing, place_at}
use Rattle.kc_asm_check.specs.Laws.{SoundStatements}
use Rattle.kc_asm_unlinked_laws.specs.Sound.{UnlinkedModulesAreUnlinked, UnlinkedModulesAreWhole, UnlinkedModulesAreSettled}
use Rattle.kc_asm_unlinked_laws.specs.Stood.{StatementsStand, IsOfStatement, NothingElseStands}
use Rattle.kc_asm.specs.Characters.{all_bytes}
use Rattle.kc_asm.specs.Linked.{IsSource, address_of, IsStatement, size_of, Stands, AreSources, Covers, LinkedImage}
use Rattle.kc_asm.proofs.Words.{IsWordAnswer}
use Rattle.kc_asm.proofs.Meanings.{split_test, standing_test, places_are_words, has_all_bytes, meaning_word}
use Rattle.kc_asm.proofs.Formed.{all_formed}
use Rattle.kc_asm.proofs.Placed.{relocatable_even}
use Rattle.kc_asm.proofs.Standing.{RelocatableEven, base_is, all_even_from, all_fit_from}
use Rattle.kc_asm.proofs.Statements.{Laws, IsRead, sound_at, values_sound, address_is, is_read, code_stands, data_stands, within_of}
use Rattle.kc_asm.proofs.OneImage.{same_or}

-- ---- what lower crates prove

pub record UnlinkedLaws : Type 0 where
  pub unlinked_modules : UnlinkedModulesAreUnlinked
  pub whole : UnlinkedModulesAreWhole
  pub settled : UnlinkedModulesAreSettled
  pub stand : StatementsStand
  pub nothing_else : NothingElseStands
  pub sound : SoundStatements
  pub formed : StatementsAreFormed
  pub numbers : NumbersStand
  pub linked : UnlinkedModulesAreLinked
  pub read : HeldIsRead
  pub fit : NumbersFit
  pub absolute : AbsolutePartsStand

-- ---- one source of several

get_some : {A : Type 0} (xs : List A) (i : ℕ) → i < length xs → (x : A) × (slice_get xs i ≡ Some x)
get_some [] i h = absurd (omega arith)
get_some (x ∷ xs) zero h = (x, refl)
get_some (x ∷ xs) (suc i) h = get_some xs i (omega (arith, h))

-- a statement among all statements, by what is known of the unlinked module and the bases
record IsBased (image : List ℕ) (c : Bases) (d : UnlinkedModule) : Type 0 where
  unlinked : IsUnlinkedModule d
  held : HoldsUnlinkedModule image c d
  fit : FitsUnlinkedModule c d
  absolute : StandsAbsolute c d

module _ (laws : Laws) (more : UnlinkedLaws) where
  is_unlinked_module : (stmts : List Stmt) (d : UnlinkedModule) (m : Object) → IsSource stmts d m → IsUnlinkedModule d
  is_unlinked_module stmts d m source = more.unlinked_modules stmts d source.well source.sound source.collected source.few

  statement_stands : (image : List ℕ) (c : Bases) (stmts : List Stmt) (d : UnlinkedModule) (m : Object) (before : List Located) (l : Located) (s : Location)
      → IsSource stmts d m → IsBased image c d → RelocatableEven c m → IsStatement stmts before l s → Stands image c stmts d before l s
  statement_stands image c stmts d m before l s source based even statement = record {
    within = λ n. within_of (part_bases c d) image (address_of c d l.segment s) (content (meaning (standing stmts) before l) s.form l.here l.action) relocatable_bytes n;
    code = code_stands laws (part_bases c d) image (address_of c d l.segment s) (meaning (standing stmts) before l) names s.form l l.action formed bytes faults relocatable_bytes;
    bytes = data_stands laws (part_bases c d) image (address_of c d l.segment s) (meaning (standing stmts) before l) names s.form l l.action relocatable_bytes;
  }
    where
      texts : list_all has_all_bytes (standing stmts) ≡ true
      texts = standing_test all_bytes (λ i g. value_at g (place_at (location_list stmts) i)) 0 first_segment stmts source.characters

      names : (q : List ℕ) → IsWordAnswer ((meaning (standing stmts) before l) q)
      names = meaning_word (standing stmts) (places_are_words (place_at (location_list stmts)) 0 first_segment stmts) texts before statement.after l statement.split

      bytes : all_bytes l.action ≡ true
      bytes = (split_test has_all_bytes (standing stmts) before statement.after l texts statement.split).1

      formed : is_formed l.action ≡ true
      formed = (split_test (λ (x : Located). is_formed x.action) (standing stmts) before statement.after l
          (standing_test is_formed (λ i g. value_at g (place_at (location_list stmts) i)) 0 first_segment stmts (all_formed more.formed stmts source.lines source.read)) statement.split).1

      faults : faults_of (meaning (standing stmts) before l) l.action ≡ []
      faults = values_sound (standing stmts) before l s (sound_at (standing stmts) first_regions before statement.after l s (location_list stmts) (more.sound stmts source.sound) statement.split statement.location)

      relocatable_bytes : (os : List RelocatableByte) → content (meaning (standing stmts) before l) s.form l.here l.action ≡ RelocatableBytes os → IsRead (part_bases c d) image (address_of c d l.segment s) os
      relocatable_bytes os e =
          let at = more.stand stmts d source.sound source.collected before l s os (record { after = statement.after; split = statement.split; location = statement.location; relocatable_bytes = e }) in
          is_read more.read image c d l.segment s os based.held based.unlinked based.absolute at
          (all_fit_from d c based.fit l.segment.piece (s.place - start_of at.t.at) (start c d l.segment.piece + (s.place - start_of at.t.at)) at.t os refl at.is_part at.stand)
          (all_even_from more.numbers d m c based.unlinked source.made even l.segment.piece (s.place - start_of at.t.at) at.t os at.is_part at.stand)

  -- ---- all sources

  at_index : (sources : List (List Stmt)) (unlinked_modules : List UnlinkedModule) (modules : List Object) → AreSources sources unlinked_modules modules → (i : ℕ) (d : UnlinkedModule) → slice_get unlinked_modules i ≡ Some d
      → (stmts : List Stmt) × ((slice_get sources i ≡ Some stmts) × ((m : Object) × (slice_get modules i ≡ Some m)))
  at_index sources unlinked_modules modules are i d e =
      let l = slice_get_within unlinked_modules i d e in
      let dc = are.unlinked_modules_count in
      let mc = are.modules_count in
      let s = get_some sources i (omega (arith, l, dc)) in
      let m = get_some modules i (omega (arith, l, dc, mc)) in
      (s.0, (s.1, (m.0, m.1)))

  are_modules : (sources : List (List Stmt)) (unlinked_modules : List UnlinkedModule) (modules : List Object) → AreSources sources unlinked_modules modules → AreModulesOf unlinked_modules modules
  are_modules sources unlinked_modules modules are = record {
    count = sym are.unlinked_modules_count ∙ are.modules_count;
    are_unlinked_modules = λ i d e. (let a = at_index sources unlinked_modules modules are i d e in is_unlinked_module a.0 d a.1.1.0 (are.of i a.0 d a.1.1.0 a.1.0 e a.1.1.1));
    are_whole = λ i d e. (let a = at_index sources unlinked_modules modules are i d e in let source = are.of i a.0 d a.1.1.0 a.1.0 e a.1.1.1 in more.whole a.0 d source.sound source.collected);
    of = λ i d m e f. (let a = at_index sources unlinked_modules modules are i d e in (are.of i a.0 d m a.1.0 e f).made);
  }

  are_settled : (sources : List (List Stmt)) (unlinked_modules : List UnlinkedModule) (modules : List Object) → AreSources sources unlinked_modules modules → AreSettled unlinked_modules
  are_settled sources unlinked_modules modules are i d e =
      let a = at_index sources unlinked_modules modules are i d e in
      let source = are.of i a.0 d a.1.1.0 a.1.0 e a.1.1.1 in
      more.settled a.0 d source.sound source.collected

  filling : (c : Bases) (place : ℕ) (o : RelocatableByte) → o ≡ Plain 255 → fill c place o ≡ 255
  unfolding fill
  filling c place o e = ap (fill c place) e

  covers : (sources : List (List Stmt)) (unlinked_modules : List UnlinkedModule) (modules : List Object) (places : Places) (place : ℕ) → AreSources sources unlinked_modules modules → (c : IsCovered unlinked_modules modules places place)
      → StandsAbsolute (bases_of modules places c.index c.m) c.d → (stmts : List Stmt) → slice_get sources c.index ≡ Some stmts
      → IsOfStatement (standing stmts) (location_list stmts) c.part (start_of c.t.at + c.offset) c.relocatable_byte → Covers sources unlinked_modules modules places place
  covers sources unlinked_modules modules places place are c absolute stmts e o =
      let source = are.of c.index stmts c.d c.m e c.is_there c.its_module in
      let at = more.stand stmts c.d source.sound source.collected o.before o.l o.s o.os o.statement in
      let same : Some at.t ≡ Some c.t = sym at.is_part ∙ (ap (slice_get c.d.parts.items) o.its_part ∙ c.stands.is_part) in
      let t : at.t ≡ c.t = cc same in
      let begin : start_of at.t.at ≡ start_of c.t.at = ap (λ (x : Section). start_of x.at) t in
      let address = address_is c.d (bases_of modules places c.index c.m) (is_unlinked_module stmts c.d c.m source) absolute o.l.segment o.s at.t at.is_part at.begins in
      let part : start (bases_of modules places c.index c.m) c.d o.l.segment.piece ≡ start (bases_of modules places c.index c.m) c.d c.part = ap (start (bases_of modules places c.index c.m) c.d) o.its_part in
      let low = at.begins in
      let its_place = o.its_place in
      let there = c.at in
      record {
        index = c.index;
        stmts = stmts;
        source = e;
        d = c.d;
        unlinked = c.is_there;
        m = c.m;
        its_module = c.its_module;
        before = o.before;
        l = o.l;
        s = o.s;
        statement = record { after = o.statement.after; split = o.statement.split; location = o.statement.location };
        byte = o.index;
        below = subst (λ (x : Content). o.index < size_of x) (sym o.statement.relocatable_bytes) (slice_get_within o.os o.index c.relocatable_byte o.relocatable_byte);
        at = omega (arith, begin, address, part, low, its_place, there);
      }

  pub linked_image : LinkedImage
  linked_image sources unlinked_modules modules ranges places image are ok filled = record {
    long = linked.long;
    stands = λ i stmts d m before l s e f g statement. statement_stands image (bases_of modules places i m) stmts d m before l s (are.of i stmts d m e f g) (based i stmts d m e f g) (evens i m g) statement;
    blank = λ place h none. elim (same_or (slice_get image place) (Some 255)) [
      | inl e ↦ e
      | inr n ↦ linked.blank place h (λ c. n (covered place none c))
    ];
  }
    where
      of : AreModulesOf unlinked_modules modules
      of = are_modules sources unlinked_modules modules are

      linked : AreLinked unlinked_modules modules places image
      linked = more.linked unlinked_modules modules ranges places image of ok filled

      absolute : (i : ℕ) (d : UnlinkedModule) (m : Object) → slice_get unlinked_modules i ≡ Some d → slice_get modules i ≡ Some m → StandsAbsolute (bases_of modules places i m) d
      absolute = more.absolute unlinked_modules modules ranges places of ok

      based : (i : ℕ) (stmts : List Stmt) (d : UnlinkedModule) (m : Object) → slice_get sources i ≡ Some stmts → slice_get unlinked_modules i ≡ Some d → slice_get modules i ≡ Some m → IsBased image (bases_of modules places i m) d
      based i stmts d m e f g = record {
        unlinked = of.are_unlinked_modules i d f;
        held = linked.holds i d m f g;
        fit = more.fit unlinked_modules modules ranges places of (are_settled sources unlinked_modules modules are) ok i d m f g;
        absolute = absolute i d m f g;
      }

      evens : (i : ℕ) (m : Object) → slice_get modules i ≡ Some m → RelocatableEven (bases_of modules places i m) m
      evens i m g piece s h none = subst (λ (n : ℕ). n % 2 ≡ 0) (sym (base_is modules places i m piece)) (relocatable_even modules ranges places i piece m s ok g h none)

      covered : (place : ℕ) → (Covers sources unlinked_modules modules places place → ⊥) → IsCovered unlinked_modules modules places place → slice_get image place ≡ Some 255
      covered place none c =
          let a = at_index sources unlinked_modules modules are c.index c.d c.is_there in
          let source = are.of c.index a.0 c.d c.m a.1.0 c.is_there c.its_module in
          elim (more.nothing_else a.0 c.d source.sound source.collected c.part c.offset c.t c.relocatable_byte c.stands.is_part c.stands.is_relocatable_byte) [
            | inl e ↦
                let h = (linked.holds c.index c.d c.m c.is_there c.its_module).relocatable_bytes c.part c.offset c.t c.relocatable_byte c.stands in
                let there = c.at in
                let p : (start (bases_of modules places c.index c.m) c.d c.part + c.offset) - 0x2000 ≡ place = omega (arith, there) in
                ap (slice_get image) (sym p) ∙ (h.byte ∙ ap (λ (n : ℕ). Some n) (filling (part_bases (bases_of modules places c.index c.m) c.d) (start (bases_of modules places c.index c.m) c.d c.part + c.offset) c.relocatable_byte e))
            | inr o ↦ absurd (none (covers sources unlinked_modules modules places place are c (absolute c.index c.d c.m c.is_there c.its_module) a.0 a.1.0 o))
          ]

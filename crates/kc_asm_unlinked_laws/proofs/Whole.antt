-- The unlinked module of a source without a fault is written by whole numbers.
use Rattle.std.proofs.Common.{◌≡◌, ℕ, Bool, true, ◌&&◌, List, [], ◌∷◌, refl, sym, subst}
use Rattle.std.specs.Prelude.{Option, Some}
use Rattle.std.specs.List.{list_all, AllByRecursion}
use Rattle.kc_expr.specs.declared.values.Value.{Value}
use Rattle.kc_obj_module.specs.declared.parts.SegKind.{SegKind}
use Rattle.kc_obj_module.specs.declared.parts.SegKind.TheVariants.{Code}
use Rattle.kc_asm_encode.specs.declared.relocatable_byte.RelocatableByte.{RelocatableByte}
use Rattle.kc_asm_encode.specs.declared.relocatable_byte.RelocatableByte.TheVariants.{Plain, Second}
use Rattle.kc_source_statement.specs.declared.statement.Stmt.{Stmt}
use Rattle.kc_asm_symbols.specs.Located.{Located}
use Rattle.kc_asm_symbols.specs.Meanings.{meaning}
use Rattle.kc_asm_encode.specs.Pairs.{IsPaired}
use Rattle.kc_asm_section.specs.declared.unlinked.UnlinkedModule.{UnlinkedModule}
use Rattle.kc_asm_section.specs.Section.{Section, is_section, blank, put, skipped, written, placed_byte_at}
use Rattle.kc_asm_section.specs.Writing.{WrittenStands, PutStands}
use Rattle.kc_asm_emit.specs.Content.{RelocatableBytes, content}
use Rattle.kc_asm_emit.specs.Pairing.{ArePaired, ContentsArePaired}
use Rattle.kc_asm_unlinked_laws.specs.Settled.{HasFirsts}
use Rattle.kc_asm_unlinked_laws.specs.Growing.{FirstsStay}
use Rattle.kc_asm_layout.specs.SizesLaws.{SizesStay, SizesHaveLengths}
use Rattle.kc_asm_layout.specs.declared.location.Location.{Location}
use Rattle.kc_asm_check.specs.Codes.{Regions, first_regions}
use Rattle.kc_asm_check.specs.Checking.{standing, location_list}
use Rattle.kc_asm_check.specs.Laws.{SoundStatements}
use Rattle.kc_asm_unlinked_laws.specs.Collecting.{IsUnlinkedModuleOf}
use Rattle.kc_asm_unlinked_laws.specs.Sound.{UnlinkedModulesAreWhole}
use Rattle.kc_asm_unlinked_laws.proofs.Lists.{no_element, all_at}
use Rattle.kc_asm_unlinked_laws.proofs.Walking.{IsWalked, walked}
use Rattle.kc_asm_unlinked_laws.proofs.Keeping.{IsAhead, kept}

no_relocatable : (offset kind : ℕ) (v : Value) → placed_byte_at [] offset ≡ Some (Second kind v) → ⊥
unfolding placed_byte_at
no_relocatable offset kind v e = no_element (Second kind v) e

blank_firsts : (kind : SegKind) (at : Option ℕ) → HasFirsts (blank kind at)
blank_firsts kind at offset k v e = absurd (no_relocatable offset k v e)

skipped_firsts : (n : ℕ) (t : Section) → HasFirsts t → HasFirsts (skipped n t)
skipped_firsts n t h offset kind v e =
    let g = h offset kind v e in
    record { before = g.before; next = g.next; wide = g.wide; begin = g.begin; first = g.first }

pub all_true : {A : Type 0} (p : A → Bool) (Q : A → Type 0) (xs : List A) → AllByRecursion (λ x. (p x ≡ true) × Q x) xs → list_all p xs ≡ true
all_true p Q [] h = refl
all_true p Q (x ∷ xs) h = (λ i. h.0.0 i && all_true p Q xs h.1 i)

module _ (written_stands : WrittenStands) (put_stands : PutStands) (firsts_stay : FirstsStay) (paired : ContentsArePaired) where
  filled_firsts : (t : Section) → t.kind ≡ Code → is_section t ≡ true → HasFirsts t → HasFirsts (put (Plain 255) t)
  filled_firsts t code is h = firsts_stay t (put (Plain 255) t) (Plain 255 ∷ []) (put_stands t is (Plain 255)) h (tt, refl)

  written_firsts : (all before : List Located) (regions : Regions) (sum : ℕ) (l : Located) (s : Location) (parts : List Section) (u : Section) → IsAhead all before regions sum l s parts u → HasFirsts u
      → (os : List RelocatableByte) → content (meaning all before l) s.form l.here l.action ≡ RelocatableBytes os → HasFirsts (written l.line os u)
  written_firsts all before regions sum l s parts u a h os is =
      let pairs : IsPaired os = subst ArePaired is (paired (meaning all before l) s.form l.here l.action) in
      firsts_stay u (written l.line os u) os (written_stands u a.is l.line os).0 h pairs

  pub whole_parts : (stmts : List Stmt) (d : UnlinkedModule) → IsWalked stmts → IsUnlinkedModuleOf stmts d → AllByRecursion (λ t. (is_section t ≡ true) × HasFirsts t) d.parts.items
  whole_parts stmts d w collected = subst (AllByRecursion (λ t. (is_section t ≡ true) × HasFirsts t)) (sym collected.parts)
      (kept (standing stmts) HasFirsts blank_firsts skipped_firsts filled_firsts (written_firsts (standing stmts)) first_regions (standing stmts) (location_list stmts) w.steps)

  pub unlinked_modules_whole : SizesStay → SizesHaveLengths → SoundStatements → UnlinkedModulesAreWhole
  unlinked_modules_whole stay lengths statements stmts d none collected =
      let parts = whole_parts stmts d (walked stay lengths statements stmts none) collected in
      record {
        sections = all_true is_section HasFirsts d.parts.items parts;
        seconds = λ part t is. (all_at (λ (u : Section). (is_section u ≡ true) × HasFirsts u) d.parts.items part t is parts).1;
      }

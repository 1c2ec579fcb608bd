-- The numbers of a source without a fault that depend on no base fit their bytes.
use Rattle.std.proofs.Common.{◌≡◌, ℕ, zero, suc, ◌+◌, true, false, not, List, [], ◌∷◌, ◌++◌, refl, sym, ap, ◌∙◌, subst, arith}
use Rattle.std.specs.Prelude.{Option, Some, None, slice_get, is_none}
use Rattle.std.specs.List.{AllByRecursion, flat_map}
use Rattle.std.specs.Option.{option_to_list}
use Rattle.kc_expr.specs.Meaning.{Answer}
use Rattle.kc_expr.proofs.UnreportedLemmas.{AreUnreported}
use Rattle.kc_obj_module.specs.declared.parts.SegKind.{SegKind}
use Rattle.kc_obj_module.specs.declared.parts.SegKind.TheVariants.{Code}
use Rattle.kc_obj_module.specs.Pieces.{kind_number}
use Rattle.kc_asm_encode.specs.declared.relocatable_byte.RelocatableByte.{RelocatableByte}
use Rattle.kc_asm_encode.specs.declared.relocatable_byte.RelocatableByte.TheVariants.{Plain, First, Second}
use Rattle.kc_asm_encode.specs.Relocating.{misfit, depends}
use Rattle.kc_source_statement.specs.Trees.{ActionTree, ArgTree}
use Rattle.kc_source_statement.specs.Trees as trees
use Rattle.kc_asm_symbols.specs.Located.{Located}
use Rattle.kc_asm_symbols.specs.Meanings.{meaning}
use Rattle.kc_asm_section.specs.Section.{Section, is_section, blank, put, skipped, written, placed_byte_at}
use Rattle.kc_asm_section.specs.Writing.{WrittenStands, PutStands}
use Rattle.kc_asm_section.specs.Order.{start_of}
use Rattle.kc_asm_emit.specs.Arguments.{Look, value_in}
use Rattle.kc_asm_emit.specs.Content.{RelocatableBytes, content}
use Rattle.kc_asm_emit.specs.Faults.{faults_of, operand_faults}
use Rattle.kc_asm_unlinked_laws.specs.Settled.{HasNoMisfit}
use Rattle.kc_asm_unlinked_laws.specs.Growing.{NoMisfitStays, FitBehind}
use Rattle.kc_asm_layout.specs.StatementSizes.{target, plain}
use Rattle.kc_asm_layout.specs.SizesLaws.{SizesStay, SizesHaveLengths}
use Rattle.kc_asm_layout.specs.declared.location.Location.{Location}
use Rattle.kc_asm_check.specs.Codes.{Regions, first_regions, examined, misfits, checks_jumps, lacks_value, lacks_target, content_faults}
use Rattle.kc_asm_check.specs.Checking.{standing, location_list}
use Rattle.kc_asm_check.specs.Laws.{SoundStatements}
use Rattle.kc_asm_unlinked_laws.specs.Sound.{UnlinkedModulesAreSettled}
use Rattle.kc_asm_unlinked_laws.proofs.Lists.{no_element, same_element, nothing_left, all_at}
use Rattle.kc_asm_unlinked_laws.proofs.Unreported.{HasValue, value_of_expression}
use Rattle.kc_asm_unlinked_laws.proofs.Standing.{IsOwn}
use Rattle.kc_asm_unlinked_laws.proofs.Walking.{walked}
use Rattle.kc_asm_unlinked_laws.proofs.Room.{step_fits}
use Rattle.kc_asm_unlinked_laws.proofs.Keeping.{IsAhead, kept}

-- ---- every jump is checked

there : (a : Answer) → HasValue a → is_none (value_in a) ≡ false
there a v = ap (λ (b : Answer). is_none (value_in b)) v.1

plain_target : (look : Look) → AreUnreported look → (a : ArgTree) → operand_faults look a ≡ [] → lacks_value look (plain a) ≡ false
plain_target look h (trees.Plain x) e = there _ (value_of_expression look h x e)
plain_target look h (trees.Immediate x) e = refl
plain_target look h (trees.Indirect r) e = refl
plain_target look h (trees.Increment r) e = refl
plain_target look h (trees.Indexed x r) e = refl

has_target : (look : Look) → AreUnreported look → (args : List ArgTree) → flat_map (operand_faults look) args ≡ [] → lacks_target look args ≡ false
unfolding target
has_target look h [] e = refl
has_target look h (a ∷ []) e = plain_target look h a (nothing_left (operand_faults look a) [] e).0
has_target look h (a ∷ b ∷ args) e = has_target look h (b ∷ args) (nothing_left (operand_faults look a) (flat_map (operand_faults look) (b ∷ args)) e).1

all_checked : (look : Look) → AreUnreported look → (action : ActionTree) → faults_of look action ≡ [] → checks_jumps look action ≡ true
all_checked look h (trees.Operation word args) e =
    ap not (has_target look h args (nothing_left (flat_map (operand_faults look) args) _ e).0)
all_checked look h _ e = refl

-- ---- no relocatable byte has a misfit

one_fits : (c : Option ℕ) (codes : List ℕ) → option_to_list (examined true c) ++ codes ≡ [] → (c ≡ None) × (codes ≡ [])
one_fits None codes e = (refl, e)
one_fits (Some code) codes e = absurd (cc e)

all_fit : (address : Option ℕ) (piece place : ℕ) (os : List RelocatableByte) → misfits true address piece place os ≡ [] → (k : ℕ) (o : RelocatableByte) → slice_get os k ≡ Some o → misfit address piece (place + k) o ≡ None
unfolding misfits
all_fit address piece place [] e k o is = absurd (no_element o is)
all_fit address piece place (p ∷ os) e zero o is =
    let none : place + 0 ≡ place = omega arith in
    (λ i. misfit address piece (none i) (sym (same_element p o is) i)) ∙ (one_fits (misfit address piece place p) _ e).0
all_fit address piece place (p ∷ os) e (suc k) o is =
    let more : place + suc k ≡ (place + 1) + k = omega arith in
    ap (λ (at : ℕ). misfit address piece at o) more ∙ all_fit address piece (place + 1) os (one_fits (misfit address piece place p) _ e).1 k o is

-- in an absolute piece its number does not matter
absolute_misfit : (address p q place : ℕ) (o : RelocatableByte) → misfit (Some address) p place o ≡ misfit (Some address) q place o
unfolding misfit depends
absolute_misfit address p q place (Plain b) = refl
absolute_misfit address p q place (First kind start v) = refl
absolute_misfit address p q place (Second kind v) = refl

own_misfit : (at : Option ℕ) (piece place : ℕ) (kind : SegKind) (o : RelocatableByte) → IsOwn piece kind at → misfit at (kind_number kind) place o ≡ misfit at piece place o
own_misfit None piece place kind o own = ap (λ (p : ℕ). misfit None p place o) (sym own.0)
own_misfit (Some address) piece place kind o own = absolute_misfit address (kind_number kind) piece place o

no_plain : (at : Option ℕ) (piece place byte : ℕ) → misfit at piece place (Plain byte) ≡ None
unfolding misfit
no_plain at piece place byte = refl

none_in_blank : (offset : ℕ) (o : RelocatableByte) → placed_byte_at [] offset ≡ Some o → ⊥
unfolding placed_byte_at
none_in_blank offset o e = no_element o e

blank_fits : (kind : SegKind) (at : Option ℕ) → HasNoMisfit (blank kind at)
blank_fits kind at offset o e = absurd (none_in_blank offset o e)

skipped_fits : (n : ℕ) (t : Section) → HasNoMisfit t → HasNoMisfit (skipped n t)
skipped_fits n t h = h

one_relocatable : (b : RelocatableByte) (k : ℕ) (o : RelocatableByte) → slice_get (b ∷ []) k ≡ Some o → b ≡ o
one_relocatable b zero o e = same_element b o e
one_relocatable b (suc k) o e = absurd (no_element o e)

module _ (written_stands : WrittenStands) (put_stands : PutStands) (no_misfit_stays : NoMisfitStays) where
  filled_fits : (t : Section) → t.kind ≡ Code → is_section t ≡ true → HasNoMisfit t → HasNoMisfit (put (Plain 255) t)
  filled_fits t code is h = no_misfit_stays t (put (Plain 255) t) (Plain 255 ∷ []) (put_stands t is (Plain 255)) h
      (λ k o e. ap (misfit t.at (kind_number t.kind) (start_of t.at + (t.length + k))) (sym (one_relocatable (Plain 255) k o e)) ∙ no_plain t.at (kind_number t.kind) (start_of t.at + (t.length + k)) 255)

  written_fits : (all before : List Located) (regions : Regions) (sum : ℕ) (l : Located) (s : Location) (parts : List Section) (u : Section) → IsAhead all before regions sum l s parts u → HasNoMisfit u
      → (os : List RelocatableByte) → content (meaning all before l) s.form l.here l.action ≡ RelocatableBytes os → HasNoMisfit (written l.line os u)
  written_fits all before regions sum l s parts u a h os is =
      no_misfit_stays u (written l.line os u) os (written_stands u a.is l.line os).0 h fit
    where
      look : Look
      look = meaning all before l

      none : misfits true s.address l.segment.piece s.place os ≡ []
      none = (λ i. content_faults (sym (all_checked look a.step.unreported l.action a.step.faultless.values) i) s.address l.segment.piece s.place (sym is i)) ∙ a.step.faultless.relocatable_bytes

      own : IsOwn l.segment.piece u.kind u.at
      own = subst (λ (at : Option ℕ). IsOwn l.segment.piece u.kind at) (sym a.behind.at)
          (subst (λ (kind : SegKind). IsOwn l.segment.piece kind a.step.t.at) (sym a.behind.kind) a.step.stands.own)

      begins : start_of u.at + u.length ≡ s.place
      begins =
          let f = step_fits all before regions sum l s parts a.step in
          let at : start_of u.at ≡ start_of a.step.t.at = ap start_of a.behind.at in
          omega (arith, at, a.behind.size, a.step.stands.begins, f.forward)

      fit : FitBehind u os
      fit k o e =
          let here : start_of u.at + (u.length + k) ≡ s.place + k = omega (arith, begins) in
          own_misfit u.at l.segment.piece (start_of u.at + (u.length + k)) u.kind o own
          ∙ ap (λ (place : ℕ). misfit u.at l.segment.piece place o) here
          ∙ ap (λ (at : Option ℕ). misfit at l.segment.piece (s.place + k) o) (a.behind.at ∙ sym a.step.stands.address)
          ∙ all_fit s.address l.segment.piece s.place os none k o e

  pub unlinked_modules_settled : SizesStay → SizesHaveLengths → SoundStatements → UnlinkedModulesAreSettled
  unlinked_modules_settled stay lengths statements stmts d none collected part t is =
      let w = walked stay lengths statements stmts none in
      let parts = kept (standing stmts) HasNoMisfit blank_fits skipped_fits filled_fits (written_fits (standing stmts)) first_regions (standing stmts) (location_list stmts) w.steps in
      let all = subst (AllByRecursion (λ u. (is_section u ≡ true) × HasNoMisfit u)) (sym collected.parts) parts in
      (all_at (λ (u : Section). (is_section u ≡ true) × HasNoMisfit u) d.parts.items part t is all).1

-- What each statement of a source says stands in the image that is filled.
use Rattle.std.proofs.Common.{◌≡◌, ℕ, ◌+◌, ◌-◌, ◌<◌, ◌≤◌, true, false, List, [], ◌∷◌, ◌++◌, length, reverse, drop, refl, sym, ap, ◌∙◌, subst, inl, inr, append_assoc, append-nil, arith}
use Rattle.std.specs.Prelude.{Option, Some, None, slice_get, nat_le}
use Rattle.std.specs.List.{flat_map}
use Rattle.std.specs.Option.{option_to_list}
use Rattle.std.proofs.lemmas.Bool.Decides.{nat_tests}
use Rattle.std.proofs.lemmas.List.{reverse-append, reverse-reverse, length-reverse}
use Rattle.kc_code.specs.Law.{SpelledIsDecoded}
use Rattle.kc_source_statement.specs.Trees.{ArgTree, ActionTree, Bare, Module, Cseg, Dseg, Rseg, Sseg, Public, Extrn, Equ, Set, Define, Reserve, Org, Even, End, Operation}
use Rattle.kc_source_statement.specs.Formed.{is_formed}
use Rattle.kc_asm_symbols.specs.declared.segments.Segment.{Segment}
use Rattle.kc_asm_symbols.specs.Located.{Located}
use Rattle.kc_asm_symbols.specs.Meanings.{meaning, in_all}
use Rattle.kc_obj_module.specs.Numbers.{Bases}
use Rattle.kc_asm_encode.specs.declared.relocatable_byte.RelocatableByte.{RelocatableByte}
use Rattle.kc_asm_encode.specs.Filling.{filled}
use Rattle.kc_branch.specs.declared.piece.Form.{Form}
use Rattle.kc_asm_encode.specs.Instructions.{instructions}
use Rattle.kc_asm_encode.specs.Faults.{fault_of}
use Rattle.kc_asm_encode.specs.Laws.{FilledIsSpelled, SettledIsSound, OperationsAreInstructions, PointersAreEven, NumbersAreWords}
use Rattle.kc_asm_encode.specs.RelocatableBytes.{all_relocatable_bytes}
use Rattle.kc_asm_encode.specs.Said.{said, IsSaid}
use Rattle.kc_asm_encode.specs.Suits.{AllFit}
use Rattle.kc_asm_section.specs.declared.unlinked.UnlinkedModule.{UnlinkedModule}
use Rattle.kc_asm_section.specs.Section.{Section, relocatable_byte_at}
use Rattle.kc_asm_section.specs.UnlinkedModules.{IsUnlinkedModule}
use Rattle.kc_asm_section.specs.Order.{start_of}
use Rattle.kc_asm_unlinked_laws.specs.Parts.{start, part_bases}
use Rattle.kc_asm_unlinked_laws.specs.Linked.{HoldsUnlinkedModule, StandsAbsolute, HeldIsRead}
use Rattle.kc_asm_unlinked_laws.proofs.PlacedBytes.{own_or_absolute}
use Rattle.kc_asm_emit.specs.Arguments.{Look, arguments}
use Rattle.kc_asm_emit.specs.Content.{Content, Nothing, RelocatableBytes, Reserved, Upto, Even as Content_Even, content, data_relocatables}
use Rattle.kc_asm_emit.specs.Faults.{faults_of, operand_faults}
use Rattle.kc_asm_layout.specs.declared.location.Location.{Location}
use Rattle.kc_asm_check.specs.Codes.{Regions, regions_after, stack_after}
use Rattle.kc_asm_check.specs.Checking.{own_codes, codes_of}
use Rattle.kc_asm_check.specs.Laws.{AreSound}
use Rattle.kc_asm_unlinked_laws.specs.Stood.{StandAt}
use Rattle.kc_asm.specs.Characters.{all_bytes}
use Rattle.kc_asm.specs.Saying.{item_bytes, data_of, code_of}
use Rattle.kc_asm.specs.Linked.{address_of, Decodes, Reads, size_of}
use Rattle.kc_asm.proofs.Words.{IsWordAnswer}
use Rattle.kc_asm.proofs.Formed.{operation_is, arguments_words}
use Rattle.kc_asm.proofs.Evens.{AllEven}
use Rattle.kc_asm.proofs.Spelled.{operation_said}
use Rattle.kc_asm.proofs.Decoding.{decodes, reads, data_filled}

-- ---- no statement has a fault

abbrev NoCodes : List Located → List Located → Located → Location → Type 0
NoCodes all before l s = (regions : Regions) × ((sum : ℕ) × (codes_of (meaning all before l) (in_all all) regions sum l s ≡ []))

sound_in : (all : List Located) (regions : Regions) (sum : ℕ) (before prefix after : List Located) (l : Located) (s : Location) (ss : List Location)
    → AreSound all regions sum before (prefix ++ l ∷ after) ss → slice_get ss (length prefix) ≡ Some s → NoCodes all (reverse prefix ++ before) l s
unfolding AreSound
sound_in all regions sum before [] after l s [] h e = absurd (cc e)
sound_in all regions sum before [] after l s (x ∷ ss) h e = let q : x ≡ s = cc e in (regions, (sum, subst (λ (y : Location). codes_of (meaning all before l) (in_all all) regions sum l y ≡ []) q h.0))
sound_in all regions sum before (f ∷ prefix) after l s [] h e = absurd (cc e)
sound_in all regions sum before (f ∷ prefix) after l s (x ∷ ss) h e =
    let r = sound_in all (regions_after (meaning all before f) regions f.action) (stack_after (meaning all before f) sum f.action) (f ∷ before) prefix after l s ss h.1 e in
    subst (λ (b : List Located). NoCodes all b l s) (sym (ap (λ (r : List Located). r ++ before) (reverse-append (f ∷ []) prefix) ∙ append_assoc (reverse prefix) (f ∷ []) before)) r

pub sound_at : (all : List Located) (regions : Regions) (before after : List Located) (l : Located) (s : Location) (ss : List Location) → AreSound all regions 0 [] all ss → all ≡ reverse before ++ l ∷ after
    → slice_get ss (length before) ≡ Some s → NoCodes all before l s
sound_at all regions before after l s ss h whole e =
    let r = sound_in all regions 0 [] (reverse before) after l s ss (subst (λ (ls : List Located). AreSound all regions 0 [] ls ss) whole h) (ap (slice_get ss) (length-reverse before) ∙ e) in
    subst (λ (b : List Located). NoCodes all b l s) (append-nil (reverse (reverse before)) ∙ reverse-reverse before) r

left_nil : {A : Type 0} (xs ys : List A) → xs ++ ys ≡ [] → xs ≡ []
left_nil [] ys e = refl
left_nil (x ∷ xs) ys e = absurd (cc e)

right_nil : {A : Type 0} (xs ys : List A) → xs ++ ys ≡ [] → ys ≡ []
right_nil [] ys e = e
right_nil (x ∷ xs) ys e = absurd (cc e)

pub values_sound : (all before : List Located) (l : Located) (s : Location) → NoCodes all before l s → faults_of (meaning all before l) l.action ≡ []
values_sound all before l s h =
    left_nil (faults_of (meaning all before l) l.action) _ (left_nil (own_codes (meaning all before l) h.0 h.1.0 l s) _ h.1.1)

no_fault : (o : Option ℕ) → option_to_list o ≡ [] → o ≡ None
no_fault None e = refl
no_fault (Some code) e = absurd (cc e)

-- ---- where a statement stands

pub address_is : (d : UnlinkedModule) (c : Bases) → IsUnlinkedModule d → StandsAbsolute c d → (g : Segment) (s : Location) (t : Section) → slice_get d.parts.items g.piece ≡ Some t → start_of t.at ≤ s.place
    → start c d g.piece + (s.place - start_of t.at) ≡ address_of c d g s
address_is d c unlinked stand g s t is_part low = elim (own_or_absolute d.parts.items g.piece t unlinked.places is_part) [
  | inl own ↦
      let below = own.below in
      let relocatable : nat_le 3 g.piece ≡ false = grind (arith, nat_tests, below) in
      let z : start_of t.at ≡ 0 = ap start_of own.at in
      rw relocatable (omega (arith, z))
  | inr absolute ↦
      let above = absolute.above in
      let is : nat_le 3 g.piece ≡ true = grind (arith, nat_tests, above) in
      let z : start_of t.at ≡ absolute.address = ap start_of absolute.at in
      let y : start c d g.piece ≡ absolute.address = stand.parts g.piece absolute.address t is_part absolute.at in
      rw is (omega (arith, z, y, low))
]

-- relocatable bytes of a statement, as the image reads from an address on
pub record IsRead (b : Bases) (image : List ℕ) (a : ℕ) (os : List RelocatableByte) : Type 0 where
  pub within : 0 < length os → 0x2000 ≤ a
  pub rest : List ℕ
  pub reads : drop (a - 0x2000) image ≡ filled b a os ++ rest
  pub fit : AllFit b a os
  pub even : AllEven b os

within_first : (image : List ℕ) (c : Bases) (d : UnlinkedModule) (part offset : ℕ) (t : Section) (os : List RelocatableByte) → HoldsUnlinkedModule image c d → slice_get d.parts.items part ≡ Some t
    → ((k : ℕ) (o : RelocatableByte) → slice_get os k ≡ Some o → relocatable_byte_at t (offset + k) ≡ Some o) → 0 < length os → 0x2000 ≤ start c d part + offset
within_first image c d part offset t [] held is_part stand l = absurd (omega (arith, l))
within_first image c d part offset t (o ∷ os) held is_part stand l =
    let w = (held.relocatable_bytes part (offset + 0) t o (record { is_part = is_part; is_relocatable_byte = stand 0 o refl })).within in
    omega (arith, w)

pub is_read : HeldIsRead → (image : List ℕ) (c : Bases) (d : UnlinkedModule) (g : Segment) (s : Location) (os : List RelocatableByte) → HoldsUnlinkedModule image c d → IsUnlinkedModule d → StandsAbsolute c d → (at : StandAt d.parts.items g.piece s.place os)
    → AllFit (part_bases c d) (start c d g.piece + (s.place - start_of at.t.at)) os → AllEven (part_bases c d) os → IsRead (part_bases c d) image (address_of c d g s) os
is_read law image c d g s os held unlinked stand at fit even =
    let offset : ℕ = s.place - start_of at.t.at in
    let read = law image c d g.piece (s.place - start_of at.t.at) os held (at.t, (at.is_part, at.stand)) in
    subst (λ (a : ℕ). IsRead (part_bases c d) image a os) (address_is d c unlinked stand g s at.t at.is_part at.begins) (record {
      within = within_first image c d g.piece (s.place - start_of at.t.at) at.t os held at.is_part at.stand;
      rest = read.0;
      reads = read.1;
      fit = fit;
      even = even;
    })

-- ---- what it says

pub record Laws : Type 0 where
  pub spelled : SpelledIsDecoded
  pub fills : FilledIsSpelled
  pub sounds : SettledIsSound
  pub are : OperationsAreInstructions
  pub evens : PointersAreEven
  pub words : NumbersAreWords

module _ (laws : Laws) (b : Bases) (image : List ℕ) (a : ℕ) (look : Look) (names : (q : List ℕ) → IsWordAnswer (look q)) (form : Form) (l : Located) where
  operation_stands : (word : List ℕ) (args : List ArgTree) → is_formed (Operation word args) ≡ true → all_bytes (Operation word args) ≡ true → faults_of look (Operation word args) ≡ []
      → IsRead b image a (all_relocatable_bytes (instructions word (arguments look args) form l.here)) → Decodes image (a - 0x2000) (code_of b a look form l (Operation word args))
  operation_stands word args formed bytes faults r =
      let f : fault_of word (arguments look args) ≡ None = no_fault (fault_of word (arguments look args)) (right_nil (flat_map (operand_faults look) args) (option_to_list (fault_of word (arguments look args))) faults) in
      let s : IsSaid b a (instructions word (arguments look args) form l.here) =
      operation_said laws.fills laws.sounds laws.are laws.evens laws.words b a word (arguments look args) form l.here (operation_is look word args formed) f (arguments_words look names args bytes) r.even r.fit in
      decodes laws.spelled image (said b a (instructions word (arguments look args) form l.here)) (a - 0x2000) r.rest s.sound (r.reads ∙ ap (λ (bs : List ℕ). bs ++ r.rest) s.spelled)

  pub code_stands : (action : ActionTree) → is_formed action ≡ true → all_bytes action ≡ true → faults_of look action ≡ []
      → ((os : List RelocatableByte) → content look form l.here action ≡ RelocatableBytes os → IsRead b image a os) → Decodes image (a - 0x2000) (code_of b a look form l action)
  code_stands (Operation word args) formed bytes faults h = operation_stands word args formed bytes faults (h (all_relocatable_bytes (instructions word (arguments look args) form l.here)) refl)
  code_stands Bare formed bytes faults h = tt
  code_stands (Module name x) formed bytes faults h = tt
  code_stands (Cseg x) formed bytes faults h = tt
  code_stands (Dseg x) formed bytes faults h = tt
  code_stands (Rseg x) formed bytes faults h = tt
  code_stands (Sseg x) formed bytes faults h = tt
  code_stands (Public x) formed bytes faults h = tt
  code_stands (Extrn x) formed bytes faults h = tt
  code_stands (Equ name x) formed bytes faults h = tt
  code_stands (Set name x) formed bytes faults h = tt
  code_stands (Define size items) formed bytes faults h = tt
  code_stands (Reserve size x) formed bytes faults h = tt
  code_stands (Org x) formed bytes faults h = tt
  code_stands Even formed bytes faults h = tt
  code_stands End formed bytes faults h = tt

  pub data_stands : (action : ActionTree) → ((os : List RelocatableByte) → content look form l.here action ≡ RelocatableBytes os → IsRead b image a os) → Reads image (a - 0x2000) (data_of b look action)
  data_stands (Define size items) h =
      let r = h (data_relocatables look size items) refl in
      reads image (flat_map (item_bytes b look size) items) (a - 0x2000) r.rest (r.reads ∙ ap (λ (bs : List ℕ). bs ++ r.rest) (data_filled b look size items a r.fit))
  data_stands (Operation word args) h = tt
  data_stands Bare h = tt
  data_stands (Module name x) h = tt
  data_stands (Cseg x) h = tt
  data_stands (Dseg x) h = tt
  data_stands (Rseg x) h = tt
  data_stands (Sseg x) h = tt
  data_stands (Public x) h = tt
  data_stands (Extrn x) h = tt
  data_stands (Equ name x) h = tt
  data_stands (Set name x) h = tt
  data_stands (Reserve size x) h = tt
  data_stands (Org x) h = tt
  data_stands Even h = tt
  data_stands End h = tt

pub within_of : (b : Bases) (image : List ℕ) (a : ℕ) (c : Content) → ((os : List RelocatableByte) → c ≡ RelocatableBytes os → IsRead b image a os) → 0 < size_of c → 0x2000 ≤ a
within_of b image a (RelocatableBytes os) h l = (h os refl).within l
within_of b image a Nothing h l = absurd (omega (arith, l))
within_of b image a (Reserved n) h l = absurd (omega (arith, l))
within_of b image a (Upto n) h l = absurd (omega (arith, l))
within_of b image a Content_Even h l = absurd (omega (arith, l))

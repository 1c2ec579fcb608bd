-- The numbers of the module of a text have the room of their fields.
use Rattle.std.proofs.Common.{◌≡◌, ℕ, zero, suc, ◌+◌, ◌<◌, ◌≤◌, ◌^◌, Bool, true, false, cond, not, ◌&&◌, ◌||◌, ◌==◌, List, [], ◌∷◌, length, map, refl, sym, ap, ◌∙◌, subst, arith}
use Rattle.std.specs.Prelude.{Option, Some, None, Ok, Err, nat_lt, nat_le, slice_get}
use Rattle.std.specs.List.{list_all, list_any}
use Rattle.std.specs.List.Sorted.{IsPermutation}
use Rattle.std.proofs.lemmas.Bool.{and_parts, and_from}
use Rattle.std.proofs.lemmas.Bool.Decides.{nat_tests}
use Rattle.std.proofs.lemmas.List.{length-map}
use Rattle.std.proofs.lemmas.List.Sorted.{list_any-IsPermutation}
use Rattle.std.proofs.lemmas.Option.{slice_get_within}
use Rattle.kc_expr.specs.Meaning.{Answer}
use Rattle.kc_source_statement.specs.declared.statement.Stmt.{Stmt}
use Rattle.kc_obj_module.specs.declared.parts.Segment.{Segment}
use Rattle.kc_obj_module.specs.declared.parts.Taken.{Taken}
use Rattle.kc_obj_module.specs.declared.parts.Given.{Given}
use Rattle.kc_obj_module.specs.declared.parts.Content.{Content}
use Rattle.kc_obj_module.specs.declared.parts.Fixup.{Fixup}
use Rattle.kc_obj_module.specs.declared.parts.Lines.{Lines}
use Rattle.kc_obj_module.specs.declared.parts.Target.{Target}
use Rattle.kc_obj_module.specs.declared.parts.Target.TheVariants as targets
use Rattle.kc_obj_module.specs.Object.{Object}
use Rattle.kc_obj_module.specs.Pieces.{has_code, kind_number}
use Rattle.kc_obj_module.specs.Contents.{content_end, content_is_sound, content_at}
use Rattle.kc_obj_module.specs.Fixups.{target_exists, fixup_is_sound, fixup_follows, fixups_in_order, fixup_at, may_begin, has_room}
use Rattle.kc_obj_module.specs.LineEntries.{line_is_sound, lines_are_sound}
use Rattle.kc_obj_module.specs.Rules.{is_module, contents_are_sound, fixups_are_sound}
use Rattle.kc_obj_module.proofs.RoomLemmas.{rest_in_order, next_follows}
use Rattle.kc_obj_module.specs.Numbers.{width}
use Rattle.kc_obj_module.specs.Widths.{target_fits, fixup_fits, line_fits, lines_fit, numbers_fit}
use Rattle.kc_asm_symbols.specs.Few.{ExternalsAreFew}
use Rattle.kc_asm_symbols.specs.Externals.{externals}
use Rattle.kc_asm_symbols.specs.Located.{first_segment, value_at}
use Rattle.kc_asm_symbols.specs.Meanings.{in_all}
use Rattle.kc_asm_encode.specs.declared.relocatable_byte.RelocatableByte.{RelocatableByte}
use Rattle.kc_asm_encode.specs.declared.relocatable_byte.RelocatableByte.TheVariants as relocatable_bytes
use Rattle.kc_asm_encode.specs.Relocating.{depends, relocated}
use Rattle.kc_asm_encode.specs.Laws.{NumbersAreWords}
use Rattle.kc_asm_section.specs.declared.unlinked.Public.{Public}
use Rattle.kc_asm_section.specs.Section.{Section, placed_byte_at, relocatable_byte_at}
use Rattle.kc_asm_section.specs.UnlinkedModules.{IsUnlinkedModule}
use Rattle.kc_asm_section.specs.Order.{number_of, segment_of, relocation}
use Rattle.kc_asm_section.specs.Publics.{given_of}
use Rattle.kc_asm_section.specs.Puts.{fixup_for}
use Rattle.kc_asm_section.specs.ModuleOf.{fixup_from, relocated_at, entries_from, kept_in, pieces_in}
use Rattle.kc_asm_section.proofs.Collecting.{parts_addable}
use Rattle.kc_asm_section.proofs.Gathering.{addable_at}
use Rattle.kc_link.proofs.ContentLemmas.{InCode, code_to, byte_in_code}
use Rattle.kc_asm_check.specs.Codes.{first_regions}
use Rattle.kc_asm_check.specs.Checking.{location_list, standing, place_at}
use Rattle.kc_asm_check.specs.Laws.{SoundStatements}
use Rattle.kc_asm_unlinked_laws.specs.Collecting.{first_parts, publics_of, given_as, all_given, distinct_from}
use Rattle.kc_asm_unlinked_laws.specs.Sound.{UnlinkedModulesAreUnlinked}
use Rattle.kc_asm_unlinked_laws.specs.Stood.{NothingElseStands}
use Rattle.kc_asm_unlinked_laws.specs.Writable.{PartsAreWritable}
use Rattle.kc_asm.specs.Assembled.{IsModule}
use Rattle.kc_asm.proofs.Said.{said_well}
use Rattle.kc_asm.proofs.Words.{IsWordAnswer}
use Rattle.kc_asm.proofs.Meanings.{places_are_words, in_all_word}
use Rattle.kc_source_laws.specs.Lines.{is_line_of, StatementsAreOfTheText}
use Rattle.kc_source_laws.specs.Read.{SourcesAreReadWell}
use Rattle.kc_source_laws.proofs.Tests.{all_join, all_map}
use Rattle.kc_asm_laws.specs.Modules.{ModulesFit}
use Rattle.kc_asm_laws.proofs.RelocatableBytes.{IsGoodRelocatableByte}
use Rattle.kc_asm_laws.proofs.Sources.{AreBytes, said_bytes, standing_bytes, unlinked_good}
use Rattle.kc_asm_laws.proofs.Sections.{marks_pass, parts_marks, located_lines, first_marks, entries_pass, pieces_pass, all_from, EachIs, each_piece, is_at, stack_small}

-- ---- lists

less : (n m : ℕ) → n < m → nat_lt n m ≡ true
less n m h = grind (arith, nat_tests, h)

more : (n m : ℕ) → nat_lt n m ≡ true → n < m
more n m h = grind (arith, nat_tests, h)

any_fails : {A : Type 0} (p : A → Bool) (xs : List A) → list_all p xs ≡ true → list_any (λ x. not (p x)) xs ≡ false
any_fails p [] h = refl
any_fails p (x ∷ xs) h = let both = and_parts (p x) (list_all p xs) h in rw (both.0, any_fails p xs both.1) refl

all_pass : {A : Type 0} (p : A → Bool) (xs : List A) → list_any (λ x. not (p x)) xs ≡ false → list_all p xs ≡ true
all_pass p [] h = refl
all_pass p (x ∷ xs) h = by (p x) refl h (λ g. all_pass p xs g)
  where
    by : (b : Bool) → p x ≡ b → (not b || list_any (λ x. not (p x)) xs) ≡ false → (list_any (λ x. not (p x)) xs ≡ false → list_all p xs ≡ true) → list_all p (x ∷ xs) ≡ true
    by true e g later = and_from (p x) (list_all p xs) e (later g)
    by false e g later = absurd (cc g)

pub all_permuted : {A : Type 0} (p : A → Bool) (xs ys : List A) → IsPermutation xs ys → list_all p xs ≡ true → list_all p ys ≡ true
all_permuted p xs ys same h = all_pass p ys (sym (list_any-IsPermutation (λ x. not (p x)) xs ys same) ∙ any_fails p xs h)

each_by : {A : Type 0} (p : A → Bool) (xs : List A) → ((i : ℕ) (x : A) → slice_get xs i ≡ Some x → p x ≡ true) → list_all p xs ≡ true
each_by p [] h = refl
each_by p (x ∷ xs) h = and_from (p x) (list_all p xs) (h 0 x refl) (each_by p xs (λ i y e. h (suc i) y e))

one_of : {A : Type 0} (p : A → Bool) (xs : List A) (i : ℕ) (x : A) → list_all p xs ≡ true → slice_get xs i ≡ Some x → p x ≡ true
one_of p [] i x h e = absurd (cc e)
one_of p (y ∷ xs) zero x h e = let same : y ≡ x = cc e in subst (λ (z : _). p z ≡ true) same (and_parts (p y) (list_all p xs) h).0
one_of p (y ∷ xs) (suc i) x h e = one_of p xs i x (and_parts (p y) (list_all p xs) h).1 e

-- ---- a relocation is found at its own place

width_some : (kind : ℕ) → 0 < width kind
width_some kind = by ((kind == 1) || (kind == 2))
  where
    by : (b : Bool) → 0 < cond b 1 2
    by true = omega arith
    by false = omega arith

-- one place before another
is_before : ℕ → ℕ → ℕ → ℕ → Bool
is_before p o q r = nat_lt p q || ((p == q) && nat_lt o r)

before_on : (p o w q r s t : ℕ) → 0 < w → (nat_lt p q || ((p == q) && nat_le (o + w) r)) ≡ true → (nat_lt q s || ((q == s) && nat_lt r t)) ≡ true → (nat_lt p s || ((p == s) && nat_lt o t)) ≡ true
before_on p o w q r s t l h k = grind (arith, nat_tests)

before_next : (p o w q r : ℕ) → 0 < w → (nat_lt p q || ((p == q) && nat_le (o + w) r)) ≡ true → (nat_lt p q || ((p == q) && nat_lt o r)) ≡ true
before_next p o w q r l h = grind (arith, nat_tests)

apart : (p o q r : ℕ) → (nat_lt p q || ((p == q) && nat_lt o r)) ≡ true → ((p == q) && (o == r)) ≡ false
apart p o q r h = grind (arith, nat_tests)

later : (f : Fixup) (fs : List Fixup) (j : ℕ) (g : Fixup) → fixups_in_order (f ∷ fs) ≡ true → slice_get fs j ≡ Some g → (nat_lt f.piece g.piece || ((f.piece == g.piece) && nat_lt f.offset g.offset)) ≡ true
later f [] j g h e = absurd (cc e)
later f (x ∷ fs) zero g h e =
    let same : x ≡ g = cc e in
    subst (λ (y : Fixup). (nat_lt f.piece y.piece || ((f.piece == y.piece) && nat_lt f.offset y.offset)) ≡ true) same
    (before_next f.piece f.offset (width f.kind) x.piece x.offset (width_some f.kind) (next_follows f x fs h))
later f (x ∷ fs) (suc j) g h e =
    before_on f.piece f.offset (width f.kind) x.piece x.offset g.piece g.offset (width_some f.kind) (next_follows f x fs h) (later x fs j g (rest_in_order f (x ∷ fs) h) e)

same_place : (p o : ℕ) → ((p == p) && (o == o)) ≡ true
same_place p o = grind (arith, nat_tests)

found : (fs : List Fixup) (j : ℕ) (f : Fixup) → fixups_in_order fs ≡ true → slice_get fs j ≡ Some f → fixup_at fs f.piece f.offset ≡ Some f
unfolding fixup_at
found [] j f h e = absurd (cc e)
found (x ∷ fs) zero f h e =
    let same : x ≡ f = cc e in
    let here : ((f.piece == f.piece) && (f.offset == f.offset)) ≡ true = same_place f.piece f.offset in
    subst (λ (y : Fixup). cond ((y.piece == f.piece) && (y.offset == f.offset)) (Some y) (fixup_at fs f.piece f.offset) ≡ Some f) (sym same) (rw here refl)
found (x ∷ fs) (suc j) f h e =
    let other : ((x.piece == f.piece) && (x.offset == f.offset)) ≡ false = apart x.piece x.offset f.piece f.offset (later x fs j f h e) in
    rw other (found fs j f (rest_in_order x fs h) e)

-- ---- what a relocation fills in

addend_of : (number : ℕ → ℕ) (t : Section) (piece offset : ℕ) (o : RelocatableByte) (f : Fixup) → IsGoodRelocatableByte o → fixup_for number piece offset (relocation t o) ≡ Some f → f.addend < 65536
unfolding relocated
addend_of number t piece offset (relocatable_bytes.Plain b) f h e = absurd (cc e)
addend_of number t piece offset (relocatable_bytes.Second kind v) f h e = absurd (cc e)
addend_of number t piece offset (relocatable_bytes.First kind start v) f h e = by (depends kind t.at (kind_number t.kind) v.base) e
  where
    by : (b : Bool) → fixup_for number piece offset (cond b (Some (kind, v)) None) ≡ Some f → f.addend < 65536
    by true g = let same : v.number ≡ f.addend = (let q : Some v.number ≡ Some f.addend = ap addend g in cc q) in subst (λ (n : ℕ). n < 65536) same h
      where
        addend : Option Fixup → Option ℕ
        addend None = None
        addend (Some x) = Some x.addend
    by false g = absurd (cc g)

abbrev HasGood : Section → Type 0
HasGood t = (offset : ℕ) (o : RelocatableByte) → relocatable_byte_at t offset ≡ Some o → IsGoodRelocatableByte o

no_relocatable : (offset : ℕ) (o : RelocatableByte) → placed_byte_at [] offset ≡ Some o → ⊥
unfolding placed_byte_at
no_relocatable offset o e = cc e

addend_at : (number : ℕ → ℕ) (pieces : List Section) (piece offset : ℕ) (f : Fixup) → EachIs HasGood pieces → relocated_at number piece (slice_get pieces piece) offset ≡ Some f → f.addend < 65536
addend_at number pieces piece offset f h e = by (slice_get pieces piece) refl e
  where
    by : (o : Option Section) → slice_get pieces piece ≡ o → relocated_at number piece o offset ≡ Some f → f.addend < 65536
    by None g k = absurd (cc k)
    by (Some t) g k = from (relocatable_byte_at t offset) refl k
      where
        from : (x : Option RelocatableByte) → relocatable_byte_at t offset ≡ x → fixup_from number t piece offset x ≡ Some f → f.addend < 65536
        from None q r = absurd (cc r)
        from (Some o) q r = addend_of number t piece offset o f (is_at HasGood pieces piece t h g offset o q) r

-- ---- the rules of a module, one by one

record Rules (m : Object) : Type 0 where
  contents : list_all (content_is_sound m.segments) m.contents ≡ true
  fixups : list_all (fixup_is_sound m.segments m.externals) m.fixups ≡ true
  ordered : fixups_in_order m.fixups ≡ true
  rooms : list_all (has_room m.contents) m.fixups ≡ true
  lines : lines_are_sound m.segments m.lines ≡ true

rules_of : (m : Object) → is_module m ≡ true → Rules m
rules_of m h =
    let a = and_parts _ (lines_are_sound m.segments m.lines) h in
    let b = and_parts _ (fixups_are_sound m.segments m.externals m.contents m.fixups) a.0 in
    let c = and_parts _ (contents_are_sound m.segments m.contents) b.0 in
    let d = and_parts (list_all (fixup_is_sound m.segments m.externals) m.fixups && fixups_in_order m.fixups) (list_all (has_room m.contents) m.fixups) b.1 in
    let e = and_parts (list_all (fixup_is_sound m.segments m.externals) m.fixups) (fixups_in_order m.fixups) d.0 in
    record { contents = (and_parts (list_all (content_is_sound m.segments) m.contents) _ c.1).0; fixups = e.0; ordered = e.1; rooms = d.1; lines = a.1 }

-- ---- places

abbrev is_short : Segment → Bool
is_short s = nat_lt s.length 0x10000

-- an offset of a code piece of few short ones
record IsPlace (piece offset : ℕ) : Type 0 where
  piece_fits : piece < 65536
  offset_fits : offset < 65536

place_of : (segments : List Segment) (piece offset : ℕ) → length segments ≤ 65536 → list_all is_short segments ≡ true → InCode segments piece offset → IsPlace piece offset
place_of segments piece offset few short c =
    let l = slice_get_within segments piece c.segment c.is_there in
    let s = more c.segment.length 0x10000 (one_of is_short segments piece c.segment short c.is_there) in
    let b = c.below in
    record { piece_fits = omega (arith, l, few); offset_fits = omega (arith, b, s) }

content_fits : (segments : List Segment) (c : Content) → length segments ≤ 65536 → list_all is_short segments ≡ true → content_is_sound segments c ≡ true → (nat_lt c.piece 0x10000 && nat_lt c.offset 0x10000) ≡ true
content_fits segments c few short h =
    let p = and_parts (nat_lt 0 (length c.bytes) && nat_le (length c.bytes) 1024) (has_code (slice_get segments c.piece) (content_end c)) h in
    let some = more 0 (length c.bytes) (and_parts (nat_lt 0 (length c.bytes)) (nat_le (length c.bytes) 1024) p.0).0 in
    let k = place_of segments c.piece c.offset few short (code_to segments c.piece c.offset (content_end c) p.1 (omega (arith, some))) in
    and_from (nat_lt c.piece 0x10000) (nat_lt c.offset 0x10000) (less c.piece 0x10000 k.piece_fits) (less c.offset 0x10000 k.offset_fits)

line_place : (segments : List Segment) (l : Lines) → length segments ≤ 65536 → list_all is_short segments ≡ true → line_is_sound segments l ≡ true → IsPlace l.piece l.offset
line_place segments l few short h =
    let p = (and_parts (has_code (slice_get segments l.piece) (l.offset + 1)) (nat_lt 0 l.line) h).0 in
    place_of segments l.piece l.offset few short (code_to segments l.piece l.offset (l.offset + 1) p (omega arith))

target_small : (segments : List Segment) (takens : List Taken) (kind : ℕ) (t : Target) → length segments ≤ 65536 → length takens ≤ 65536 → target_exists segments takens kind t ≡ true → target_fits t ≡ true
target_small segments takens kind (targets.Piece p) few many h = let l = more p (length segments) h in less p 0x10000 (omega (arith, l, few))
target_small segments takens kind (targets.External e) few many h = let l = more e (length takens) h in less e 0x10000 (omega (arith, l, many))
target_small segments takens kind targets.Number few many h = refl

fixup_small : (m : Object) (f : Fixup) → length m.segments ≤ 65536 → list_all is_short m.segments ≡ true → length m.externals ≤ 65536 → list_all (content_is_sound m.segments) m.contents ≡ true
    → fixup_is_sound m.segments m.externals f ≡ true → has_room m.contents f ≡ true → f.addend < 65536 → fixup_fits f ≡ true
fixup_small m f few short many contents sound room small =
    let a = and_parts (nat_lt f.piece (length m.segments) && nat_le f.kind 4) (target_exists m.segments m.externals f.kind f.target) sound in
    let place : IsPlace f.piece f.offset = by (content_at m.contents f.piece f.offset) refl (and_parts (may_begin f.kind (content_at m.contents f.piece f.offset)) _ room).0 in
    and_from (nat_lt f.piece 0x10000 && nat_lt f.offset 0x10000 && target_fits f.target) (nat_lt f.addend 0x10000)
    (and_from (nat_lt f.piece 0x10000 && nat_lt f.offset 0x10000) (target_fits f.target)
    (and_from (nat_lt f.piece 0x10000) (nat_lt f.offset 0x10000) (less f.piece 0x10000 place.piece_fits) (less f.offset 0x10000 place.offset_fits))
    (target_small m.segments m.externals f.kind f.target few many a.1))
    (less f.addend 0x10000 small)
  where
    by : (o : Option ℕ) → content_at m.contents f.piece f.offset ≡ o → may_begin f.kind o ≡ true → IsPlace f.piece f.offset
    by None e h = absurd (cc h)
    by (Some b) e h = place_of m.segments f.piece f.offset few short (byte_in_code m.segments m.contents f.piece f.offset b contents e)

-- ---- public names

abbrev is_word : ℕ → Bool
is_word n = nat_lt n 0x10000

given_word : (name : List ℕ) (a : Answer) → IsWordAnswer a → list_all (λ p. is_word p.value.number) (given_as name a) ≡ true
given_word name (Ok v) h = and_from (is_word v.number) true (less v.number 0x10000 h) refl
given_word name (Err fault) h = refl

publics_words : (last : List ℕ → Answer) → ((q : List ℕ) → IsWordAnswer (last q)) → (names : List (List ℕ)) → list_all (λ p. is_word p.value.number) (publics_of last names) ≡ true
unfolding publics_of
publics_words last h [] = refl
publics_words last h (n ∷ ns) = all_join (λ (p : Public). is_word p.value.number) (given_as n (last n)) (publics_of last ns) (given_word n (last n) (h n)) (publics_words last h ns)

-- ---- the module of a text

pub record Laws : Type 0 where
  pub of_text : StatementsAreOfTheText
  pub read : SourcesAreReadWell
  pub words : NumbersAreWords
  pub nothing_else : NothingElseStands
  pub unlinked_modules : UnlinkedModulesAreUnlinked
  pub writable : PartsAreWritable
  pub sound : SoundStatements
  pub few : ExternalsAreFew

module _ (laws : Laws) (text : List ℕ) (m : Object) (short_text : length text < 2 ^ 32) (is : IsModule text m) where
  bytes : AreBytes text is.stmts
  bytes = said_bytes laws.of_text text is.stmts is.said

  unlinked : IsUnlinkedModule is.unlinked
  unlinked = laws.unlinked_modules is.stmts is.unlinked (said_well laws.read text is.stmts is.said) is.sound is.collected is.few

  stack : is.unlinked.stack < 65536
  stack =
      let small = stack_small (standing is.stmts) first_regions 0 [] (standing is.stmts) (location_list is.stmts) first_parts (laws.sound is.stmts is.sound) (laws.writable is.stmts is.sound) (omega arith) in
      let same = is.collected.stack in
      omega (arith, small, same)

  part_short : (i : ℕ) (t : Section) → slice_get is.unlinked.parts.items i ≡ Some t → nat_lt t.length 0x10000 ≡ true
  part_short i t e = less t.length 0x10000 (addable_at is.unlinked.parts.items i t (parts_addable (length is.unlinked.externals.items) is.unlinked.parts.items unlinked.places unlinked.parts) e).short

  abbrev section_short : Section → Bool
  section_short t = nat_lt t.length 0x10000

  segments_short : list_all is_short m.segments ≡ true
  segments_short =
      let pieces = pieces_pass section_short (kept_in is.unlinked) is.unlinked.parts.items is.unlinked.stack (all_from section_short is.unlinked.parts.items part_short) (less is.unlinked.stack 0x10000 stack) in
      rw is.made.segments (all_map is_short section_short segment_of (pieces_in is.unlinked) (λ t e. e) pieces)

  segments_few : length m.segments ≤ 65536
  segments_few = let e = ap length is.made.segments in let n = length-map (pieces_in is.unlinked) segment_of in let few = is.few in omega (arith, e, n, few)

  externals_few : length m.externals ≤ 65536
  externals_few =
      let e : length m.externals ≡ length (externals (standing is.stmts)) = ap length (is.made.externals ∙ is.collected.externals) in
      let few = laws.few is.said.0 is.stmts (λ i g. value_at g (place_at (location_list is.stmts) i)) is.said.2 in
      omega (arith, e, few)

  publics_fit : list_all (λ g. nat_lt g.value 0x10000) m.publics ≡ true
  publics_fit =
      let last = in_all_word (standing is.stmts) (places_are_words (place_at (location_list is.stmts)) 0 first_segment is.stmts) (standing_bytes text is.stmts bytes) in
      let words = publics_words (in_all (standing is.stmts)) last (distinct_from [] (all_given (standing is.stmts))) in
      let all : list_all (λ p. is_word p.value.number) is.unlinked.publics.items ≡ true = rw is.collected.publics words in
      all_permuted (λ (g : Given). nat_lt g.value 0x10000) (map (given_of (number_of (kept_in is.unlinked))) is.unlinked.publics.items) m.publics is.made.publics
      (all_map (λ (g : Given). nat_lt g.value 0x10000) (λ (p : Public). is_word p.value.number) (given_of (number_of (kept_in is.unlinked))) is.unlinked.publics.items (λ p e. e) all)

  pieces_good : EachIs HasGood (pieces_in is.unlinked)
  pieces_good =
      each_piece HasGood (kept_in is.unlinked) is.unlinked.parts.items is.unlinked.stack (λ i t e offset o f. unlinked_good laws.words laws.nothing_else text is.stmts is.unlinked bytes is.sound is.collected i offset t o e f)
      (λ offset o e. absurd (no_relocatable offset o e))

  rules : Rules m
  rules = rules_of m is.made.rules

  contents_fit : list_all (λ c. nat_lt c.piece 0x10000 && nat_lt c.offset 0x10000) m.contents ≡ true
  contents_fit = each_by (λ (c : Content). nat_lt c.piece 0x10000 && nat_lt c.offset 0x10000) m.contents (λ i c e. content_fits m.segments c segments_few segments_short (one_of (content_is_sound m.segments) m.contents i c rules.contents e))

  fixups_fit : list_all fixup_fits m.fixups ≡ true
  fixups_fit = each_by fixup_fits m.fixups (λ i f e.
      let at = sym (is.made.fixups f.piece f.offset) ∙ found m.fixups i f rules.ordered e in
      fixup_small m f segments_few segments_short externals_few rules.contents (one_of (fixup_is_sound m.segments m.externals) m.fixups i f rules.fixups e) (one_of (has_room m.contents) m.fixups i f rules.rooms e)
      (addend_at (number_of (kept_in is.unlinked)) (pieces_in is.unlinked) f.piece f.offset f pieces_good at))

  abbrev line_small : ℕ → Bool
  line_small n = nat_lt n 0x100000000

  stmts_small : list_all (λ s. line_small s.line) is.stmts ≡ true
  stmts_small = each_by (λ (s : Stmt). line_small s.line) is.stmts (λ i s e.
      let l = one_of (λ (x : Stmt). is_line_of text x.line) is.stmts i s bytes.lines_of e in
      let high : nat_le s.line (length text) ≡ true = (and_parts (nat_lt 0 s.line) (nat_le s.line (length text)) l).1 in
      let le : s.line ≤ length text = grind (arith, nat_tests, high) in
      less s.line 0x100000000 (omega (arith, le, short_text)))

  marks_small : list_all (marks_pass line_small) is.unlinked.parts.items ≡ true
  marks_small = rw is.collected.parts (parts_marks line_small (standing is.stmts) [] (standing is.stmts) (location_list is.stmts) first_parts
      (located_lines line_small (λ i g. value_at g (place_at (location_list is.stmts) i)) 0 first_segment is.stmts stmts_small) (first_marks line_small))

  entries_small : list_all (λ l. line_small l.line) (entries_from 0 (pieces_in is.unlinked)) ≡ true
  entries_small = entries_pass line_small 0 (pieces_in is.unlinked) (pieces_pass (marks_pass line_small) (kept_in is.unlinked) is.unlinked.parts.items is.unlinked.stack marks_small refl)

  entry_fits : (l : Lines) → line_is_sound m.segments l ≡ true → line_small l.line ≡ true → line_fits l ≡ true
  entry_fits l h k =
      let place = line_place m.segments l segments_few segments_short h in
      and_from (nat_lt l.piece 0x10000 && nat_lt l.offset 0x10000) (nat_lt l.line 0x100000000) (and_from (nat_lt l.piece 0x10000) (nat_lt l.offset 0x10000) (less l.piece 0x10000 place.piece_fits) (less l.offset 0x10000 place.offset_fits)) k

  entries_fit : (o : Option (List Lines)) → lines_are_sound m.segments o ≡ true → o ≡ Some (entries_from 0 (pieces_in is.unlinked)) → lines_fit o ≡ true
  entries_fit None h e = refl
  entries_fit (Some ls) h e =
      let same : ls ≡ entries_from 0 (pieces_in is.unlinked) = cc e in
      let small : list_all (λ l. line_small l.line) ls ≡ true = rw same entries_small in
      let sound = (and_parts (list_all (line_is_sound m.segments) ls) _ h).0 in
      each_by line_fits ls (λ i l f. entry_fits l (one_of (line_is_sound m.segments) ls i l sound f) (one_of (λ (x : Lines). line_small x.line) ls i l small f))

  fits : numbers_fit m ≡ true
  fits =
      and_from _ (lines_fit m.lines)
      (and_from _ (list_all fixup_fits m.fixups)
      (and_from _ (list_all (λ c. nat_lt c.piece 0x10000 && nat_lt c.offset 0x10000) m.contents)
      (and_from (list_all is_short m.segments) (list_all (λ g. nat_lt g.value 0x10000) m.publics) segments_short publics_fit) contents_fit) fixups_fit)
      (entries_fit m.lines rules.lines is.made.lines)

pub modules_fit : Laws → ModulesFit
modules_fit laws text m short is = fits laws text m short is

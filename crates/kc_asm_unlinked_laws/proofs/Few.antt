-- A module has at most one piece more than its source has statements: an absolute piece is opened by one, registers and data are
-- pieces only where one goes over to them, and the stack only where one asks for it; code alone needs none.
use Rattle.std.proofs.Common.{◌≡◌, ℕ, zero, suc, ◌+◌, ◌-◌, ◌%◌, ◌≤◌, ◌<◌, Bool, true, false, ◌&&◌, ◌||◌, eqb, cond, List, [], ◌∷◌, ◌++◌, reverse, length, length-append, replicate, set, refl, sym, ap, ◌∙◌, subst, arith}
use Rattle.std.specs.Prelude.{Option, Some, None, Ok, Err, not, nat_le, nat_lt, if◌then◌else◌, unwrap_or, slice_get, slice_set}
use Rattle.std.specs.List.{list_all, list_any, AllByRecursion}
use Rattle.std.proofs.lemmas.Bool.{and_parts}
use Rattle.std.proofs.lemmas.Bool.Decides.{nat_tests}
use Rattle.std.proofs.lemmas.List.Folds.{list_all-append}
use Rattle.std.proofs.lemmas.List.Sums.{AllPass-from_list_all}
use Rattle.kc_obj_module.specs.declared.parts.SegKind.{SegKind}
use Rattle.kc_obj_module.specs.declared.parts.SegKind.TheVariants.{Reg, Code, Ram, Stack}
use Rattle.kc_obj_module.specs.Pieces.{kind_number}
use Rattle.kc_obj_module.specs.Fixups.{may_begin}
use Rattle.kc_expr.specs.Tree.{Tree}
use Rattle.kc_expr.specs.Meaning.{Answer, here}
use Rattle.kc_expr.specs.Known.{is_known}
use Rattle.kc_expr.specs.declared.values.Base.{Base}
use Rattle.kc_expr.specs.declared.values.Base.TheVariants.{Absolute, Piece, External}
use Rattle.kc_expr.specs.declared.values.Value.{Value}
use Rattle.kc_source_statement.specs.declared.statement.Stmt.{Stmt}
use Rattle.kc_source_statement.specs.Trees.{ActionTree, action_tree}
use Rattle.kc_source_statement.specs.Trees as trees
use Rattle.kc_asm_symbols.specs.declared.segments.Segment.{Segment}
use Rattle.kc_asm_symbols.specs.Located.{Located, located_from, value_at, base_of, is_absolute, segment_after, first_segment}
use Rattle.kc_asm_symbols.specs.Meanings.{meaning, in_all}
use Rattle.kc_asm_symbols.specs.Known.{MeaningsAreKnown, BasesAreKnown}
use Rattle.kc_asm_symbols.proofs.WalkLemmas.{located_length, further}
use Rattle.kc_asm_encode.specs.declared.relocatable_byte.RelocatableByte.{RelocatableByte}
use Rattle.kc_asm_encode.specs.declared.relocatable_byte.RelocatableByte.TheVariants.{Plain, First, Second}
use Rattle.kc_asm_encode.specs.Relocating.{is_piece, depends, relocated}
use Rattle.kc_asm_section.specs.declared.part.PlacedByte.{PlacedByte}
use Rattle.kc_asm_section.specs.declared.unlinked.UnlinkedModule.{UnlinkedModule}
use Rattle.kc_asm_section.specs.declared.unlinked.Public.{Public as Given}
use Rattle.kc_asm_section.specs.Section.{Section, placed_byte, blank, put, skipped, laid, begun, written}
use Rattle.kc_asm_section.specs.Order.{relocation, aims_at, is_named, stays_in, kept_of, count_of}
use Rattle.kc_asm_section.specs.ModuleOf.{kept_in, pieces_in}
use Rattle.kc_asm_section.proofs.Totals.{total}
use Rattle.kc_asm_emit.specs.Arguments.{Look}
use Rattle.kc_asm_emit.specs.Bases as said
use Rattle.kc_asm_emit.specs.Bases.{ContentsAreRelocatableBytes}
use Rattle.kc_asm_emit.specs.Content.{Content, Nothing, RelocatableBytes, Reserved, Upto, Even, content}
use Rattle.kc_asm_layout.specs.StatementSizes.{opens}
use Rattle.kc_asm_layout.specs.declared.location.Location.{Location}
use Rattle.kc_asm_check.specs.Codes.{stack_after}
use Rattle.kc_asm_check.specs.Checking.{standing, location_list, place_at}
use Rattle.kc_asm_check.specs.Putting.{stack_from, stack_of}
use Rattle.kc_asm_unlinked_laws.specs.Collecting.{led, put_content, section_with, kind_opened, with_opened, first_section, parts_after, parts_from, first_parts, given_as, publics_of, all_given, distinct_from, IsUnlinkedModuleOf}
use Rattle.kc_asm_unlinked_laws.specs.Few.{PiecesAreFew}
use Rattle.kc_asm_unlinked_laws.proofs.Lists.{prefix_at, no_element, all_pushed, all_set}

not_true : (b : Bool) → not b ≡ true → b ≡ false
not_true true e = absurd (cc e)
not_true false e = refl

-- ---- nothing counts from a relocatable piece in which no statement stands

module _ (n : ℕ) where
  abbrev known : Base → Bool
  known b = not (is_piece n b)

  abbrev is_good : RelocatableByte → Bool
  is_good (Plain b) = true
  is_good (First kind start v) = known v.base
  is_good (Second kind v) = true

  abbrev is_clear : PlacedByte → Bool
  is_clear c = is_good c.relocatable_byte

  -- no relocatable byte of the piece counts from it
  abbrev IsClear : Section → Type 0
  IsClear t = list_all is_clear t.placed_bytes ≡ true

  abbrev AreGood : Content → Type 0
  AreGood (RelocatableBytes os) = list_all is_good os ≡ true
  AreGood c = Unit {0}

  good_relocatable : (o : RelocatableByte) → said.is_relocatable_byte known o ≡ true → is_good o ≡ true
  good_relocatable (Plain b) e = refl
  good_relocatable (First kind start v) e = (and_parts (may_begin kind (Some start)) (known v.base) (and_parts (nat_le kind 4) (may_begin kind (Some start) && known v.base) e).1).1
  good_relocatable (Second kind v) e = refl

  good_relocatables : (os : List RelocatableByte) → list_all (said.is_relocatable_byte known) os ≡ true → list_all is_good os ≡ true
  good_relocatables [] e = refl
  good_relocatables (o ∷ os) e =
      let parts = and_parts (said.is_relocatable_byte known o) (list_all (said.is_relocatable_byte known) os) e in
      (λ i. good_relocatable o parts.0 i && good_relocatables os parts.1 i)

  good_content : (c : Content) → said.AreRelocatableBytes known c → AreGood c
  good_content (RelocatableBytes os) h = good_relocatables os h
  good_content Nothing h = tt
  good_content (Reserved count) h = tt
  good_content (Upto to) h = tt
  good_content Even h = tt

  clear_put : (o : RelocatableByte) (t : Section) → is_good o ≡ true → IsClear t → IsClear (put o t)
  clear_put o t e h = list_all-append is_clear t.placed_bytes (placed_byte t.length o ∷ []) ∙ (λ i. h i && (e i && true))

  clear_laid : (os : List RelocatableByte) (t : Section) → list_all is_good os ≡ true → IsClear t → IsClear (laid os t)
  unfolding laid
  clear_laid [] t e h = h
  clear_laid (o ∷ os) t e h =
      let parts = and_parts (is_good o) (list_all is_good os) e in
      clear_laid os (put o t) parts.1 (clear_put o t parts.0 h)

  clear_written : (line : ℕ) (os : List RelocatableByte) (t : Section) → list_all is_good os ≡ true → IsClear t → IsClear (written line os t)
  clear_written line [] t e h = h
  clear_written line (o ∷ os) t e h =
      let parts = and_parts (is_good o) (list_all is_good os) e in
      clear_laid os (begun line o t) parts.1 (list_all-append is_clear t.placed_bytes (placed_byte t.length o ∷ []) ∙ (λ i. h i && (parts.0 i && true)))

  filling : (count : ℕ) → list_all is_good (replicate count (Plain 255)) ≡ true
  filling zero = refl
  filling (suc count) = filling count

  clear_led : (kind : SegKind) (count : ℕ) (t : Section) → IsClear t → IsClear (led kind count t)
  clear_led Code count t h = clear_laid (replicate count (Plain 255)) t (filling count) h
  clear_led Reg count t h = h
  clear_led Ram count t h = h
  clear_led Stack count t h = h

  clear_content : (line : ℕ) (kind : SegKind) (place : ℕ) (c : Content) (t : Section) → AreGood c → IsClear t → IsClear (put_content line kind place c t)
  clear_content line kind place Nothing t g h = h
  clear_content line kind place (RelocatableBytes os) t g h = clear_written line os t g h
  clear_content line kind place (Reserved count) t g h = h
  clear_content line kind place (Upto to) t g h = h
  clear_content line kind place Even t g h = clear_led kind (place % 2) t h

  clear_at : (parts : List Section) (piece : ℕ) → AllByRecursion IsClear parts → IsClear (unwrap_or (slice_get parts piece) first_section)
  clear_at [] piece h = refl
  clear_at (t ∷ parts) zero h = h.0
  clear_at (t ∷ parts) (suc piece) h = clear_at parts piece h.1

  clear_opened : (kind : SegKind) (o : Option ℕ) (parts : List Section) → AllByRecursion IsClear parts → AllByRecursion IsClear (with_opened kind o parts)
  clear_opened kind None parts h = h
  clear_opened kind (Some address) parts h = all_pushed IsClear parts (blank kind (Some address)) refl h

  module _ (relocatable_bytes : ContentsAreRelocatableBytes) (all : List Located) (names : MeaningsAreKnown known all) where
    clear_parts : (before ls : List Located) (ss : List Location) (parts : List Section) → all ≡ reverse before ++ ls → AllByRecursion IsClear parts → AllByRecursion IsClear (parts_from all before ls ss parts)
    unfolding parts_from
    clear_parts before [] ss parts split h = h
    clear_parts before (l ∷ ls) [] parts split h = h
    clear_parts before (l ∷ ls) (s ∷ ss) parts split h =
        let look = meaning all before l in
        let reported = names.at before ls l split in
        let place : known l.here.base ≡ true = reported here in
        let c = content look s.form l.here l.action in
        let good : AreGood c = good_content c (relocatable_bytes known refl refl look reported s.form l.here place l.action) in
        let t = unwrap_or (slice_get parts l.segment.piece) first_section in
        let led_to = led l.segment.kind (s.place - s.before) t in
        let grown : IsClear (section_with c l s t) = clear_content l.line l.segment.kind s.place c led_to good (clear_led l.segment.kind (s.place - s.before) t (clear_at parts l.segment.piece h)) in
        let placed = all_set IsClear parts l.segment.piece (section_with c l s t) grown h in
        clear_parts (l ∷ before) ls ss (parts_after look l s parts) (further all before ls l split)
        (clear_opened (kind_opened l.action) (opens look l.action) (slice_set parts l.segment.piece (section_with c l s t)) placed)

  -- ---- so no relocation and no public name aims at it

  aims_elsewhere : (at : Option ℕ) (own : ℕ) (o : RelocatableByte) → is_good o ≡ true → aims_at n (relocated at own o) ≡ false
  unfolding relocated
  aims_elsewhere at own (Plain b) e = refl
  aims_elsewhere at own (First kind start v) e = by (depends kind at own v.base)
    where
      by : (b : Bool) → aims_at n (if b then Some (kind, v) else None) ≡ false
      by true = not_true (is_piece n v.base) e
      by false = refl
  aims_elsewhere at own (Second kind v) e = refl

  placed_bytes_elsewhere : (t : Section) (cs : List PlacedByte) → list_all is_clear cs ≡ true → list_any (λ c. aims_at n (relocation t c.relocatable_byte)) cs ≡ false
  placed_bytes_elsewhere t [] e = refl
  placed_bytes_elsewhere t (c ∷ cs) e =
      let parts = and_parts (is_clear c) (list_all is_clear cs) e in
      (λ i. aims_elsewhere t.at (kind_number t.kind) c.relocatable_byte parts.0 i || placed_bytes_elsewhere t cs parts.1 i)

  parts_elsewhere : (ts : List Section) → AllByRecursion IsClear ts → list_any (λ t. list_any (λ c. aims_at n (relocation t c.relocatable_byte)) t.placed_bytes) ts ≡ false
  parts_elsewhere [] h = refl
  parts_elsewhere (t ∷ ts) h = (λ i. placed_bytes_elsewhere t t.placed_bytes h.0 i || parts_elsewhere ts h.1 i)

  given_elsewhere : (name : List ℕ) (a : Answer) (rest : List Given) → is_known known a ≡ true → list_any (λ p. is_piece n p.value.base) rest ≡ false
      → list_any (λ p. is_piece n p.value.base) (given_as name a ++ rest) ≡ false
  given_elsewhere name (Ok v) rest e h = (λ i. not_true (is_piece n v.base) e i || h i)
  given_elsewhere name (Err fault) rest e h = h

  publics_elsewhere : (last : List ℕ → Answer) → ((name : List ℕ) → is_known known (last name) ≡ true) → (names : List (List ℕ)) → list_any (λ p. is_piece n p.value.base) (publics_of last names) ≡ false
  unfolding publics_of
  publics_elsewhere last reported [] = refl
  publics_elsewhere last reported (name ∷ names) = given_elsewhere name (last name) (publics_of last names) (reported name) (publics_elsewhere last reported names)

  -- ---- and it is empty

  abbrev is_elsewhere : Located → Bool
  is_elsewhere l = not (eqb l.segment.piece n)

  one_less : (i j : ℕ) → eqb (suc i) (suc j) ≡ false → eqb i j ≡ false
  one_less i j e = grind (arith, nat_tests, e)

  set_other : (xs : List Section) (i j : ℕ) (x y : Section) → eqb i j ≡ false → slice_get xs j ≡ Some x → slice_get (set xs i y) j ≡ Some x
  set_other [] i j x y e h = absurd (no_element x h)
  set_other (z ∷ xs) zero zero x y e h = absurd (cc e)
  set_other (z ∷ xs) zero (suc j) x y e h = h
  set_other (z ∷ xs) (suc i) zero x y e h = h
  set_other (z ∷ xs) (suc i) (suc j) x y e h = set_other xs i j x y (one_less i j e) h

  opened_behind : (kind : SegKind) (o : Option ℕ) (parts : List Section) (x : Section) → slice_get parts n ≡ Some x → slice_get (with_opened kind o parts) n ≡ Some x
  opened_behind kind None parts x h = h
  opened_behind kind (Some address) parts x h = prefix_at parts (blank kind (Some address) ∷ []) n x h

  untouched : (all before ls : List Located) (ss : List Location) (parts : List Section) (x : Section) → list_all is_elsewhere ls ≡ true → slice_get parts n ≡ Some x → slice_get (parts_from all before ls ss parts) n ≡ Some x
  unfolding parts_from
  untouched all before [] ss parts x e h = h
  untouched all before (l ∷ ls) [] parts x e h = h
  untouched all before (l ∷ ls) (s ∷ ss) parts x e h =
      let look = meaning all before l in
      let both = and_parts (is_elsewhere l) (list_all is_elsewhere ls) e in
      let t = section_with (content look s.form l.here l.action) l s (unwrap_or (slice_get parts l.segment.piece) first_section) in
      untouched all (l ∷ before) ls ss (parts_after look l s parts) x both.1
      (opened_behind (kind_opened l.action) (opens look l.action) (slice_set parts l.segment.piece t) x (set_other parts l.segment.piece n x t (not_true (eqb l.segment.piece n) both.0) h))

  place_known : (g : Segment) → not (eqb g.piece n) ≡ true → known (base_of g) ≡ true
  place_known g e = by (is_absolute g)
    where
      by : (b : Bool) → known (cond b Absolute (Piece g.piece)) ≡ true
      by true = refl
      by false = e

  places_known : (places : ℕ → ℕ) (i : ℕ) (g : Segment) (ss : List Stmt) → list_all is_elsewhere (located_from (λ i g. value_at g (places i)) i g ss) ≡ true
      → list_all (λ l. known l.here.base) (located_from (λ i g. value_at g (places i)) i g ss) ≡ true
  unfolding located_from
  places_known places i g [] e = refl
  places_known places i g (s ∷ ss) e =
      let rest = located_from (λ i g. value_at g (places i)) (i + 1) (segment_after g (action_tree s.action)) ss in
      let both = and_parts (not (eqb g.piece n)) (list_all is_elsewhere rest) e in
      (λ j. place_known g both.0 j && places_known places (i + 1) (segment_after g (action_tree s.action)) ss both.1 j)

  is_no_piece : BasesAreKnown → ContentsAreRelocatableBytes → (stmts : List Stmt) (d : UnlinkedModule) → IsUnlinkedModuleOf stmts d → (kind : SegKind) → slice_get first_parts n ≡ Some (blank kind None)
      → list_all is_elsewhere (standing stmts) ≡ true → stays_in d.parts.items d.publics.items n (slice_get d.parts.items n) ≡ false
  unfolding is_named
  is_no_piece bases relocatable_bytes stmts d collected kind starts none =
      let all = standing stmts in
      let places = AllPass-from_list_all (λ (l : Located). known l.here.base) all (places_known (place_at (location_list stmts)) 0 first_segment stmts none) in
      let names : MeaningsAreKnown known all = bases known refl refl all (λ e low. refl) places in
      let clear : AllByRecursion IsClear (parts_from all [] all (location_list stmts) first_parts) = clear_parts relocatable_bytes all names [] all (location_list stmts) first_parts refl (refl, (refl, (refl, tt))) in
      let same : slice_get d.parts.items n ≡ Some (blank kind None) = ap (λ (ts : List Section). slice_get ts n) collected.parts ∙ untouched all [] all (location_list stmts) first_parts (blank kind None) none starts in
      let publics : list_any (λ (p : Given). is_piece n p.value.base) d.publics.items ≡ false =
      ap (list_any (λ (p : Given). is_piece n p.value.base)) collected.publics ∙ publics_elsewhere (in_all all) names.last (distinct_from [] (all_given all)) in
      let parts : list_any (λ (t : Section). list_any (λ (c : PlacedByte). aims_at n (relocation t c.relocatable_byte)) t.placed_bytes) d.parts.items ≡ false =
      parts_elsewhere d.parts.items (subst (AllByRecursion IsClear) (sym collected.parts) clear) in
      ap (stays_in d.parts.items d.publics.items n) same ∙ (λ i. publics i || parts i)

-- ---- which statements ask for a piece

-- opens an absolute piece; goes over to registers, or to data; asks for stack
abbrev opening : ActionTree → ℕ
opening (trees.Cseg (Some x)) = 1
opening (trees.Dseg (Some x)) = 1
opening (trees.Rseg (Some x)) = 1
opening action = 0

abbrev to_registers : ActionTree → ℕ
to_registers (trees.Rseg None) = 1
to_registers action = 0

abbrev to_data : ActionTree → ℕ
to_data (trees.Dseg None) = 1
to_data action = 0

abbrev asking : ActionTree → ℕ
asking (trees.Sseg x) = 1
asking (trees.Module name stack) = 1
asking action = 0

one_each : (a : ActionTree) → opening a + to_registers a + to_data a + asking a ≤ 1
one_each (trees.Cseg None) = omega arith
one_each (trees.Cseg (Some x)) = omega arith
one_each (trees.Dseg None) = omega arith
one_each (trees.Dseg (Some x)) = omega arith
one_each (trees.Rseg None) = omega arith
one_each (trees.Rseg (Some x)) = omega arith
one_each (trees.Sseg x) = omega arith
one_each (trees.Module name stack) = omega arith
one_each trees.Bare = omega arith
one_each (trees.Public names) = omega arith
one_each (trees.Extrn names) = omega arith
one_each (trees.Equ name x) = omega arith
one_each (trees.Set name x) = omega arith
one_each (trees.Define size items) = omega arith
one_each (trees.Reserve size x) = omega arith
one_each (trees.Org x) = omega arith
one_each trees.Even = omega arith
one_each trees.End = omega arith
one_each (trees.Operation word args) = omega arith

abbrev sum_of : (ActionTree → ℕ) → List Located → ℕ
sum_of f [] = 0
sum_of f (l ∷ ls) = f l.action + sum_of f ls

all_sums : (ls : List Located) → sum_of opening ls + sum_of to_registers ls + sum_of to_data ls + sum_of asking ls ≤ length ls
all_sums [] = omega arith
all_sums (l ∷ ls) = omega (arith, one_each l.action, all_sums ls)

first_none : (m n : ℕ) → m + n ≡ 0 → m ≡ 0
first_none m n e = omega (arith, e)

rest_none : (m n : ℕ) → m + n ≡ 0 → n ≡ 0
rest_none m n e = omega (arith, e)

-- ---- absolute pieces

pushed : (kind : SegKind) (address : ℕ) (parts : List Section) → length (parts ++ blank kind (Some address) ∷ []) ≤ length parts + 1
pushed kind address parts = omega (arith, length-append parts (blank kind (Some address) ∷ []))

opened_few : (look : Look) (kind : SegKind) (a : ActionTree) (parts : List Section) → length (with_opened kind (opens look a) parts) ≤ length parts + opening a
opened_few look kind (trees.Cseg None) parts = omega arith
opened_few look kind (trees.Cseg (Some x)) parts = pushed kind _ parts
opened_few look kind (trees.Dseg None) parts = omega arith
opened_few look kind (trees.Dseg (Some x)) parts = pushed kind _ parts
opened_few look kind (trees.Rseg None) parts = omega arith
opened_few look kind (trees.Rseg (Some x)) parts = pushed kind _ parts
opened_few look kind (trees.Sseg x) parts = omega arith
opened_few look kind (trees.Module name stack) parts = omega arith
opened_few look kind trees.Bare parts = omega arith
opened_few look kind (trees.Public names) parts = omega arith
opened_few look kind (trees.Extrn names) parts = omega arith
opened_few look kind (trees.Equ name x) parts = omega arith
opened_few look kind (trees.Set name x) parts = omega arith
opened_few look kind (trees.Define size items) parts = omega arith
opened_few look kind (trees.Reserve size x) parts = omega arith
opened_few look kind (trees.Org x) parts = omega arith
opened_few look kind trees.Even parts = omega arith
opened_few look kind trees.End parts = omega arith
opened_few look kind (trees.Operation word args) parts = omega arith

set_length : (ts : List Section) (i : ℕ) (t : Section) → length (slice_set ts i t) ≡ length ts
set_length [] i t = refl
set_length (x ∷ ts) zero t = refl
set_length (x ∷ ts) (suc i) t = ap suc (set_length ts i t)

parts_few : (all before ls : List Located) (ss : List Location) (parts : List Section) → length (parts_from all before ls ss parts) ≤ length parts + sum_of opening ls
unfolding parts_from
parts_few all before [] ss parts = omega arith
parts_few all before (l ∷ ls) [] parts = omega arith
parts_few all before (l ∷ ls) (s ∷ ss) parts =
    let look = meaning all before l in
    let t = section_with (content look s.form l.here l.action) l s (unwrap_or (slice_get parts l.segment.piece) first_section) in
    let rest = parts_few all (l ∷ before) ls ss (parts_after look l s parts) in
    let opened = opened_few look (kind_opened l.action) l.action (slice_set parts l.segment.piece t) in
    let same = set_length parts l.segment.piece t in
    omega (arith, rest, opened, same)

-- ---- relocatable pieces

count_after : (g : Segment) (a : ActionTree) → 3 ≤ g.count → 3 ≤ (segment_after g a).count
count_after g (trees.Cseg None) h = h
count_after g (trees.Cseg (Some x)) h = omega (arith, h)
count_after g (trees.Dseg None) h = h
count_after g (trees.Dseg (Some x)) h = omega (arith, h)
count_after g (trees.Rseg None) h = h
count_after g (trees.Rseg (Some x)) h = omega (arith, h)
count_after g (trees.Sseg x) h = h
count_after g (trees.Module name stack) h = h
count_after g trees.Bare h = h
count_after g (trees.Public names) h = h
count_after g (trees.Extrn names) h = h
count_after g (trees.Equ name x) h = h
count_after g (trees.Set name x) h = h
count_after g (trees.Define size items) h = h
count_after g (trees.Reserve size x) h = h
count_after g (trees.Org x) h = h
count_after g trees.Even h = h
count_after g trees.End h = h
count_after g (trees.Operation word args) h = h

new_piece : (count n : ℕ) → 3 ≤ count → n < 3 → not (eqb count n) ≡ true
new_piece count n h k = grind (arith, nat_tests, h, k)

no_registers : (g : Segment) (a : ActionTree) → 3 ≤ g.count → not (eqb g.piece 0) ≡ true → to_registers a ≡ 0 → not (eqb (segment_after g a).piece 0) ≡ true
no_registers g (trees.Cseg None) h e z = refl
no_registers g (trees.Cseg (Some x)) h e z = new_piece g.count 0 h (omega arith)
no_registers g (trees.Dseg None) h e z = refl
no_registers g (trees.Dseg (Some x)) h e z = new_piece g.count 0 h (omega arith)
no_registers g (trees.Rseg None) h e z = absurd (omega (arith, z))
no_registers g (trees.Rseg (Some x)) h e z = new_piece g.count 0 h (omega arith)
no_registers g (trees.Sseg x) h e z = e
no_registers g (trees.Module name stack) h e z = e
no_registers g trees.Bare h e z = e
no_registers g (trees.Public names) h e z = e
no_registers g (trees.Extrn names) h e z = e
no_registers g (trees.Equ name x) h e z = e
no_registers g (trees.Set name x) h e z = e
no_registers g (trees.Define size items) h e z = e
no_registers g (trees.Reserve size x) h e z = e
no_registers g (trees.Org x) h e z = e
no_registers g trees.Even h e z = e
no_registers g trees.End h e z = e
no_registers g (trees.Operation word args) h e z = e

no_data : (g : Segment) (a : ActionTree) → 3 ≤ g.count → not (eqb g.piece 2) ≡ true → to_data a ≡ 0 → not (eqb (segment_after g a).piece 2) ≡ true
no_data g (trees.Cseg None) h e z = refl
no_data g (trees.Cseg (Some x)) h e z = new_piece g.count 2 h (omega arith)
no_data g (trees.Dseg None) h e z = absurd (omega (arith, z))
no_data g (trees.Dseg (Some x)) h e z = new_piece g.count 2 h (omega arith)
no_data g (trees.Rseg None) h e z = refl
no_data g (trees.Rseg (Some x)) h e z = new_piece g.count 2 h (omega arith)
no_data g (trees.Sseg x) h e z = e
no_data g (trees.Module name stack) h e z = e
no_data g trees.Bare h e z = e
no_data g (trees.Public names) h e z = e
no_data g (trees.Extrn names) h e z = e
no_data g (trees.Equ name x) h e z = e
no_data g (trees.Set name x) h e z = e
no_data g (trees.Define size items) h e z = e
no_data g (trees.Reserve size x) h e z = e
no_data g (trees.Org x) h e z = e
no_data g trees.Even h e z = e
no_data g trees.End h e z = e
no_data g (trees.Operation word args) h e z = e

module _ (n : ℕ) (going : ActionTree → ℕ) (step : (g : Segment) (a : ActionTree) → 3 ≤ g.count → not (eqb g.piece n) ≡ true → going a ≡ 0 → not (eqb (segment_after g a).piece n) ≡ true) where
  none_stands : (values : ℕ → Segment → Value) (i : ℕ) (g : Segment) (ss : List Stmt) → 3 ≤ g.count → not (eqb g.piece n) ≡ true → sum_of going (located_from values i g ss) ≡ 0
      → list_all (is_elsewhere n) (located_from values i g ss) ≡ true
  unfolding located_from
  none_stands values i g [] h e z = refl
  none_stands values i g (s ∷ ss) h e z =
      let a = action_tree s.action in
      let rest = sum_of going (located_from values (i + 1) (segment_after g a) ss) in
      (λ j. e j && none_stands values (i + 1) (segment_after g a) ss (count_after g a h) (step g a h e (first_none (going a) rest z)) (rest_none (going a) rest z) j)

-- a piece that is none unless one statement at least goes over to it
count_by : (m : ℕ) (b : Bool) → (m ≡ 0 → b ≡ false) → count_of b ≤ m
count_by zero b h = let none : b ≡ false = h refl in rw none (omega arith)
count_by (suc m) true h = omega arith
count_by (suc m) false h = omega arith

-- ---- the stack

stack_stays : (look : Look) (sum : ℕ) (a : ActionTree) → asking a ≡ 0 → stack_after look sum a ≡ sum
stack_stays look sum (trees.Sseg x) z = absurd (omega (arith, z))
stack_stays look sum (trees.Module name stack) z = absurd (omega (arith, z))
stack_stays look sum (trees.Cseg at) z = omega arith
stack_stays look sum (trees.Dseg at) z = omega arith
stack_stays look sum (trees.Rseg at) z = omega arith
stack_stays look sum trees.Bare z = omega arith
stack_stays look sum (trees.Public names) z = omega arith
stack_stays look sum (trees.Extrn names) z = omega arith
stack_stays look sum (trees.Equ name x) z = omega arith
stack_stays look sum (trees.Set name x) z = omega arith
stack_stays look sum (trees.Define size items) z = omega arith
stack_stays look sum (trees.Reserve size x) z = omega arith
stack_stays look sum (trees.Org x) z = omega arith
stack_stays look sum trees.Even z = omega arith
stack_stays look sum trees.End z = omega arith
stack_stays look sum (trees.Operation word args) z = omega arith

no_stack : (all : List Located) (sum : ℕ) (before ls : List Located) → sum_of asking ls ≡ 0 → sum ≡ 0 → stack_from all sum before ls ≡ 0
unfolding stack_from
no_stack all sum before [] z e = e
no_stack all sum before (l ∷ ls) z e =
    let look = meaning all before l in
    no_stack all (stack_after look sum l.action) (l ∷ before) ls (rest_none (asking l.action) (sum_of asking ls) z)
    (stack_stays look sum l.action (first_none (asking l.action) (sum_of asking ls) z) ∙ e)

-- ---- the whole

pub pieces_few : BasesAreKnown → ContentsAreRelocatableBytes → PiecesAreFew
unfolding kept_of
pieces_few bases relocatable_bytes stmts d collected =
    let all = standing stmts in
    let values : ℕ → Segment → Value = λ i g. value_at g (place_at (location_list stmts) i) in
    let registers : count_of (kept_in d).registers ≤ sum_of to_registers all =
    count_by (sum_of to_registers all) (kept_in d).registers (λ z. is_no_piece 0 bases relocatable_bytes stmts d collected Reg refl (none_stands 0 to_registers no_registers values 0 first_segment stmts (omega arith) refl z)) in
    let data_piece : count_of (kept_in d).ram ≤ sum_of to_data all =
    count_by (sum_of to_data all) (kept_in d).ram (λ z. is_no_piece 2 bases relocatable_bytes stmts d collected Ram refl (none_stands 2 to_data no_data values 0 first_segment stmts (omega arith) refl z)) in
    let code : count_of (kept_in d).code ≤ 1 = count_by 1 (kept_in d).code (λ z. absurd (omega (arith, z))) in
    let stack : count_of (not (eqb d.stack 0)) ≤ sum_of asking all =
    count_by (sum_of asking all) (not (eqb d.stack 0)) (λ z. ap (λ (m : ℕ). not (eqb m 0)) (collected.stack ∙ no_stack all 0 [] all z refl)) in
    let parts : length d.parts.items ≤ 3 + sum_of opening all = subst (λ (ts : List Section). length ts ≤ 3 + sum_of opening all) (sym collected.parts) (parts_few all [] all (location_list stmts) first_parts) in
    let long : length all ≡ length stmts = located_length values 0 first_segment stmts in
    let whole = total d.parts.items d.publics.items d.stack in
    omega (arith, registers, data_piece, code, stack, parts, long, whole, all_sums all)

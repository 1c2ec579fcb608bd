-- What is put and marked in all pieces is sound.
use Rattle.std.proofs.Common.{◌≡◌, ℕ, ◌+◌, ◌<◌, ◌≤◌, Bool, true, false, ◌&&◌, ◌||◌, eqb, ltb, leb, Some, List, [], ◌∷◌, ◌++◌, map, length, refl, subst, append_assoc, length-append, arith}
use Rattle.std.specs.List.{slice_get, list_all, list_any, AllByRecursion}
use Rattle.std.proofs.lemmas.Bool.{and_parts}
use Rattle.std.proofs.lemmas.Bool.Decides.{nat_tests}
use Rattle.std.proofs.lemmas.Option.{slice_get_within}
use Rattle.std.proofs.lemmas.List.Folds.{list_all-append}
use Rattle.kc_obj_module.specs.declared.parts.Segment.{Segment}
use Rattle.kc_obj_module.specs.declared.parts.Taken.{Taken}
use Rattle.kc_obj_module.specs.declared.parts.Lines.{Lines}
use Rattle.kc_obj_module.specs.Pieces.{kind_number, has_code, is_placed}
use Rattle.kc_obj_module.specs.Contents.{is_from}
use Rattle.kc_obj_module.specs.Fixups.{fixup_is_sound}
use Rattle.kc_obj_module.specs.LineEntries.{line_is_sound, line_follows, lines_in_order}
use Rattle.kc_obj_module.proofs.RoomLemmas.{from_joined}
use Rattle.kc_asm_section.specs.declared.part.PlacedByte.{PlacedByte}
use Rattle.kc_asm_section.specs.declared.part.Mark.{Mark}
use Rattle.kc_asm_section.specs.Section.{Section, is_section, rise, mark_offsets}
use Rattle.kc_asm_section.specs.declared.puts.Put.{Put}
use Rattle.kc_asm_section.specs.Order.{segment_of, relocation, aims_at}
use Rattle.kc_asm_section.specs.Puts.{put_of, entry_of}
use Rattle.kc_asm_section.specs.UnlinkedModules.{IsPart}
use Rattle.kc_asm_section.specs.Runs.{listed}
use Rattle.kc_asm_section.specs.ModuleOf.{entries_from}
use Rattle.kc_asm_section.proofs.PlacedBytes.{placed_bytes_below, section_parts, rise_end}
use Rattle.kc_asm_section.proofs.RunOrder.{both, put_in_code}
use Rattle.kc_asm_section.proofs.Fixing.{AllFit}
use Rattle.kc_asm_section.proofs.Flat.{puts_from}
use Rattle.kc_asm_section.proofs.Pieces.{placed_bytes_fit, placed_bytes_sound, AllAim}

-- a piece of the module: the relocatable parts that it names are pieces
pub record IsPiece (number : ℕ → ℕ) (count externals : ℕ) (t : Section) : Type 0 where
  pub section : is_section t ≡ true
  pub part : IsPart externals t
  pub placed : is_placed (segment_of t) ≡ true
  pub aims : (n : ℕ) → n < 3 → list_any (λ c. aims_at n (relocation t c.relocatable_byte)) t.placed_bytes ≡ true → number n < count

-- the pieces from a number on
abbrev pub StandAt : List Segment → ℕ → List Section → Type 0
StandAt segments piece [] = Unit {0}
StandAt segments piece (t ∷ ts) = (slice_get segments piece ≡ Some (segment_of t)) × StandAt segments (piece + 1) ts

at_length : (prefix : List Section) (t : Section) (ts : List Section) → slice_get (map segment_of (prefix ++ t ∷ ts)) (length prefix) ≡ Some (segment_of t)
at_length [] t ts = refl
at_length (x ∷ xs) t ts = at_length xs t ts

stand_behind : (prefix ts : List Section) → StandAt (map segment_of (prefix ++ ts)) (length prefix) ts
stand_behind prefix [] = tt
stand_behind prefix (t ∷ ts) =
    let more : StandAt (map segment_of ((prefix ++ t ∷ []) ++ ts)) (length (prefix ++ t ∷ [])) ts = stand_behind (prefix ++ t ∷ []) ts in
    let place : length (prefix ++ t ∷ []) ≡ length prefix + 1 = length-append prefix (t ∷ []) in
    let same : (prefix ++ t ∷ []) ++ ts ≡ prefix ++ t ∷ ts = append_assoc prefix (t ∷ []) ts in
    (at_length prefix t ts, subst (λ (n : ℕ). StandAt (map segment_of (prefix ++ t ∷ ts)) n ts) place (subst (λ (l : List Section). StandAt (map segment_of l) (length (prefix ++ t ∷ [])) ts) same more))

pub all_stand : (ts : List Section) → StandAt (map segment_of ts) 0 ts
all_stand ts = stand_behind [] ts

append_all : {A : Type 0} (test : A → Bool) (xs ys : List A) → list_all test xs ≡ true → list_all test ys ≡ true → list_all test (xs ++ ys) ≡ true
append_all test xs ys h k = rw (list_all-append test xs ys) (both (list_all test xs) (list_all test ys) h k)

-- ---- relocatable bytes stand in code

is_code : (is : Bool) (n m : ℕ) → (is || (eqb n 0 && eqb m 0)) ≡ true → 0 < n → is ≡ true
is_code true n m h lt = refl
is_code false n m h lt = grind (arith, nat_tests)

is_code_by_marks : (is : Bool) (n m : ℕ) → (is || (eqb n 0 && eqb m 0)) ≡ true → 0 < m → is ≡ true
is_code_by_marks true n m h lt = refl
is_code_by_marks false n m h lt = grind (arith, nat_tests)

ends_by : (o n : ℕ) → ltb o n ≡ true → leb (o + 1) n ≡ true
ends_by o n h = grind (arith, nat_tests)

module _ (number : ℕ → ℕ) (segments : List Segment) (piece : ℕ) (t : Section) (here : slice_get segments piece ≡ Some (segment_of t)) where
  code_to : (end : ℕ) → eqb (kind_number t.kind) 1 ≡ true → leb end t.length ≡ true → has_code (slice_get segments piece) end ≡ true
  code_to end kind le = rw (here, kind, le) refl

  placed_bytes_in_code : (placed_bytes : List PlacedByte) → (0 < length placed_bytes → eqb (kind_number t.kind) 1 ≡ true) → list_all (λ c. ltb c.offset t.length) placed_bytes ≡ true → list_all (put_in_code segments) (map (put_of number piece t) placed_bytes) ≡ true
  placed_bytes_in_code [] kind below = refl
  placed_bytes_in_code (c ∷ cs) kind below =
      let parts = and_parts (ltb c.offset t.length) (list_all (λ c. ltb c.offset t.length) cs) below in
      both (put_in_code segments (put_of number piece t c)) (list_all (put_in_code segments) (map (put_of number piece t) cs))
      (code_to (c.offset + 1) (kind (omega arith)) (ends_by c.offset t.length parts.0)) (placed_bytes_in_code cs (λ _. kind (omega arith)) parts.1)

  marks_in_code : (marks : List Mark) (from : ℕ) → (0 < length marks → eqb (kind_number t.kind) 1 ≡ true) → rise from (mark_offsets marks) t.length ≡ true → list_all (λ m. ltb 0 m.line) marks ≡ true
      → list_all (line_is_sound segments) (map (entry_of piece) marks) ≡ true
  unfolding rise
  marks_in_code [] from kind rising lines = refl
  marks_in_code (m ∷ ms) from kind rising lines =
      let rises = and_parts (leb from m.offset) (rise (m.offset + 1) (mark_offsets ms) t.length) rising in
      let parts = and_parts (ltb 0 m.line) (list_all (λ m. ltb 0 m.line) ms) lines in
      let end : m.offset + 1 ≤ t.length = rise_end (m.offset + 1) (mark_offsets ms) t.length rises.1 in
      let within : leb (m.offset + 1) t.length ≡ true = grind (arith, nat_tests) in
      both (line_is_sound segments (entry_of piece m)) (list_all (line_is_sound segments) (map (entry_of piece) ms))
      (both (has_code (slice_get segments piece) (m.offset + 1)) (ltb 0 m.line) (code_to (m.offset + 1) (kind (omega arith)) within) parts.0)
      (marks_in_code ms (m.offset + 1) (λ _. kind (omega arith)) rises.1 parts.1)

-- ---- all pieces

module _ (number : ℕ → ℕ) (segments : List Segment) (externals : List Taken) where
  abbrev ArePieces : List Section → Type 0
  ArePieces ts = AllByRecursion (IsPiece number (length segments) (length externals)) ts

  pub all_in_code : (piece : ℕ) (ts : List Section) → StandAt segments piece ts → ArePieces ts → list_all (put_in_code segments) (puts_from number piece ts) ≡ true
  unfolding puts_from
  all_in_code piece [] stand are = refl
  all_in_code piece (t ∷ ts) stand are =
      append_all (put_in_code segments) (map (put_of number piece t) t.placed_bytes) (puts_from number (piece + 1) ts)
      (placed_bytes_in_code number segments piece t stand.0 t.placed_bytes (is_code (eqb (kind_number t.kind) 1) (length t.placed_bytes) (length t.marks) are.0.part.code) (placed_bytes_below t are.0.section))
      (all_in_code (piece + 1) ts stand.1 are.1)

  pub all_fit : (piece : ℕ) (ts : List Section) → ArePieces ts → AllFit (puts_from number piece ts)
  unfolding puts_from
  all_fit piece [] are = tt
  all_fit piece (t ∷ ts) are = placed_bytes_fit number piece t (length externals) t.placed_bytes (puts_from number (piece + 1) ts) are.0.part.relocatable_bytes (all_fit (piece + 1) ts are.1)

  or_left : (a b : Bool) → a ≡ true → (a || b) ≡ true
  or_left a b h = rw h refl

  or_right : (a b : Bool) → b ≡ true → (a || b) ≡ true
  or_right true b h = refl
  or_right false b h = h

  aim_placed_bytes : (piece : ℕ) (t : Section) (there : ltb piece (length segments) ≡ true) (placed_bytes : List PlacedByte)
      → ((n : ℕ) → n < 3 → list_any (λ c. aims_at n (relocation t c.relocatable_byte)) placed_bytes ≡ true → number n < length segments) → AllAim number piece t segments externals there placed_bytes
  aim_placed_bytes piece t there [] aims = tt
  aim_placed_bytes piece t there (c ∷ cs) aims = (
    λ n lt h. aims n lt (or_left (aims_at n (relocation t c.relocatable_byte)) (list_any (λ c. aims_at n (relocation t c.relocatable_byte)) cs) h),
    aim_placed_bytes piece t there cs (λ n lt h. aims n lt (or_right (aims_at n (relocation t c.relocatable_byte)) (list_any (λ c. aims_at n (relocation t c.relocatable_byte)) cs) h)),
  )

  is_below : (a b : ℕ) → a < b → ltb a b ≡ true
  is_below a b h = grind (arith, nat_tests)

  abbrev pub fixup_sound : Put → Bool
  fixup_sound q = list_all (fixup_is_sound segments externals) (listed q.fixup)

  pub all_sound : (piece : ℕ) (ts : List Section) → StandAt segments piece ts → ArePieces ts → list_all fixup_sound (puts_from number piece ts) ≡ true
  unfolding puts_from
  all_sound piece [] stand are = refl
  all_sound piece (t ∷ ts) stand are =
      let there : ltb piece (length segments) ≡ true = is_below piece (length segments) (slice_get_within segments piece (segment_of t) stand.0) in
      append_all fixup_sound (map (put_of number piece t) t.placed_bytes) (puts_from number (piece + 1) ts)
      (placed_bytes_sound number piece t segments externals there t.placed_bytes are.0.part.relocatable_bytes (aim_placed_bytes piece t there t.placed_bytes are.0.aims))
      (all_sound (piece + 1) ts stand.1 are.1)

  pub all_marked : (piece : ℕ) (ts : List Section) → StandAt segments piece ts → ArePieces ts → list_all (line_is_sound segments) (entries_from piece ts) ≡ true
  unfolding entries_from
  all_marked piece [] stand are = refl
  all_marked piece (t ∷ ts) stand are =
      append_all (line_is_sound segments) (map (entry_of piece) t.marks) (entries_from (piece + 1) ts)
      (marks_in_code number segments piece t stand.0 t.marks 0 (is_code_by_marks (eqb (kind_number t.kind) 1) (length t.placed_bytes) (length t.marks) are.0.part.code) (section_parts t are.0.section).1 are.0.part.lines)
      (all_marked (piece + 1) ts stand.1 are.1)

  pub all_placed : (ts : List Section) → ArePieces ts → list_all is_placed (map segment_of ts) ≡ true
  all_placed [] are = refl
  all_placed (t ∷ ts) are = both (is_placed (segment_of t)) (list_all is_placed (map segment_of ts)) are.0.placed (all_placed ts are.1)

  pub all_sections : (ts : List Section) → ArePieces ts → list_all is_section ts ≡ true
  all_sections [] are = refl
  all_sections (t ∷ ts) are = both (is_section t) (list_all is_section ts) are.0.section (all_sections ts are.1)

-- ---- line entries rise

abbrev line_rises : ℕ → ℕ → List Lines → Bool
line_rises piece offset [] = true
line_rises piece offset (l ∷ ls) = is_from piece offset l.piece l.offset && line_rises l.piece (l.offset + 1) ls

line_weaker : (p o q r : ℕ) (ls : List Lines) → is_from p o q r ≡ true → line_rises q r ls ≡ true → line_rises p o ls ≡ true
line_weaker p o q r [] h k = refl
line_weaker p o q r (x ∷ xs) h k =
    let parts = and_parts (is_from q r x.piece x.offset) (line_rises x.piece (x.offset + 1) xs) k in
    both (is_from p o x.piece x.offset) (line_rises x.piece (x.offset + 1) xs) (from_joined p o q r x.piece x.offset h parts.0) parts.1

next_piece : (piece from : ℕ) → is_from piece from (piece + 1) 0 ≡ true
next_piece piece from = grind (arith, nat_tests)

same_piece : (piece from offset : ℕ) → leb from offset ≡ true → is_from piece from piece offset ≡ true
same_piece piece from offset h = grind (arith, nat_tests)

marks_rise : (piece from : ℕ) (marks : List Mark) (to : ℕ) (rest : List Lines) → rise from (mark_offsets marks) to ≡ true → line_rises (piece + 1) 0 rest ≡ true → line_rises piece from (map (entry_of piece) marks ++ rest) ≡ true
unfolding rise
marks_rise piece from [] to rest h k = line_weaker piece from (piece + 1) 0 rest (next_piece piece from) k
marks_rise piece from (m ∷ ms) to rest h k =
    let parts = and_parts (leb from m.offset) (rise (m.offset + 1) (mark_offsets ms) to) h in
    both (is_from piece from piece m.offset) (line_rises piece (m.offset + 1) (map (entry_of piece) ms ++ rest)) (same_piece piece from m.offset parts.0) (marks_rise piece (m.offset + 1) ms to rest parts.1 k)

entries_rise : (piece : ℕ) (ts : List Section) → list_all is_section ts ≡ true → line_rises piece 0 (entries_from piece ts) ≡ true
unfolding entries_from
entries_rise piece [] h = refl
entries_rise piece (t ∷ ts) h =
    let parts = and_parts (is_section t) (list_all is_section ts) h in
    marks_rise piece 0 t.marks t.length (entries_from (piece + 1) ts) (section_parts t parts.0).1 (entries_rise (piece + 1) ts parts.1)

follows_from : (p o q r : ℕ) → is_from p (o + 1) q r ≡ true → (ltb p q || (eqb p q && ltb o r)) ≡ true
follows_from p o q r h = grind (arith, nat_tests)

in_order_after : (l : Lines) (ls : List Lines) → line_rises l.piece (l.offset + 1) ls ≡ true → lines_in_order (l ∷ ls) ≡ true
unfolding lines_in_order
in_order_after l [] h = refl
in_order_after l (x ∷ xs) h =
    let parts = and_parts (is_from l.piece (l.offset + 1) x.piece x.offset) (line_rises x.piece (x.offset + 1) xs) h in
    both (line_follows l x) (lines_in_order (x ∷ xs)) (follows_from l.piece l.offset x.piece x.offset parts.0) (in_order_after x xs parts.1)

in_order_from : (piece offset : ℕ) (ls : List Lines) → line_rises piece offset ls ≡ true → lines_in_order ls ≡ true
unfolding lines_in_order
in_order_from piece offset [] h = refl
in_order_from piece offset (l ∷ ls) h = in_order_after l ls (and_parts (is_from piece offset l.piece l.offset) (line_rises l.piece (l.offset + 1) ls) h).1

pub entries_in_order : (ts : List Section) → list_all is_section ts ≡ true → lines_in_order (entries_from 0 ts) ≡ true
entries_in_order ts h = in_order_from 0 0 (entries_from 0 ts) (entries_rise 0 ts h)

-- What stands in the pieces, one after the other.
use Rattle.std.proofs.Common.{◌≡◌, ℕ, ◌+◌, ◌<◌, Bool, true, false, ◌&&◌, eqb, leb, if◌then◌else◌, Option, Some, None, List, [], ◌∷◌, ◌++◌, map, length, suc, zero, refl, sym, ap, ◌∙◌, append_assoc, length-append, arith}
use Rattle.std.specs.List.{slice_get, list_all}
use Rattle.std.specs.Option.{option_map}
use Rattle.std.proofs.lemmas.List.{append-nil}
use Rattle.std.proofs.lemmas.Bool.{and_parts}
use Rattle.std.proofs.lemmas.Bool.Decides.{nat_tests}
use Rattle.kc_obj_module.specs.declared.parts.Segment.{Segment}
use Rattle.kc_obj_module.specs.declared.parts.Fixup.{Fixup}
use Rattle.kc_obj_module.specs.declared.parts.Lines.{Lines}
use Rattle.kc_obj_module.specs.Contents.{is_from}
use Rattle.kc_obj_module.proofs.RoomLemmas.{from_joined}
use Rattle.kc_asm_encode.specs.declared.relocatable_byte.RelocatableByte.{RelocatableByte}
use Rattle.kc_asm_section.specs.declared.part.PlacedByte.{PlacedByte}
use Rattle.kc_asm_section.specs.Section.{Section, rise, is_section, placed_byte_offsets, placed_byte_at}
use Rattle.kc_asm_section.specs.declared.puts.Put.{Put}
use Rattle.kc_asm_section.specs.Order.{segment_of, relocation}
use Rattle.kc_asm_section.specs.Puts.{put_of, entry_of, byte_for, fixup_for}
use Rattle.kc_asm_section.specs.ModuleContents.{module_contents_of, empty, added_all}
use Rattle.kc_asm_section.specs.ModuleOf.{entries_from, byte_at, relocated_at, fixup_from}
use Rattle.kc_asm_section.proofs.PlacedBytes.{section_parts}
use Rattle.kc_asm_section.proofs.RunBytes.{is_at, put_byte}
use Rattle.kc_asm_section.proofs.RunOrder.{rises, both}

unfoldable pub puts_from : (ℕ → ℕ) → ℕ → List Section → List Put
puts_from number piece [] = []
puts_from number piece (t ∷ ts) = map (put_of number piece t) t.placed_bytes ++ puts_from number (piece + 1) ts

-- ---- what is gathered

module _ (number : ℕ → ℕ) (t : Section) (ts : List Section) (segments : List Segment) (puts : List Put) (entries : List Lines) where
  count_more : length (segments ++ segment_of t ∷ []) ≡ length segments + 1
  count_more = length-append segments (segment_of t ∷ [])

  segments_more : (segments ++ segment_of t ∷ []) ++ map segment_of ts ≡ segments ++ map segment_of (t ∷ ts)
  segments_more = append_assoc segments (segment_of t ∷ []) (map segment_of ts)

  puts_more : (puts ++ map (put_of number (length segments) t) t.placed_bytes) ++ puts_from number (length (segments ++ segment_of t ∷ [])) ts ≡ puts ++ puts_from number (length segments) (t ∷ ts)
  unfolding puts_from
  puts_more = rw count_more (append_assoc puts (map (put_of number (length segments) t) t.placed_bytes) (puts_from number (length segments + 1) ts))

  entries_more : (entries ++ map (entry_of (length segments)) t.marks) ++ entries_from (length (segments ++ segment_of t ∷ [])) ts ≡ entries ++ entries_from (length segments) (t ∷ ts)
  unfolding entries_from
  entries_more = rw count_more (append_assoc entries (map (entry_of (length segments)) t.marks) (entries_from (length segments + 1) ts))

added_is : (number : ℕ → ℕ) (ts : List Section) (segments : List Segment) (puts : List Put) (entries : List Lines)
    → added_all number ts (module_contents_of segments puts entries) ≡ module_contents_of (segments ++ map segment_of ts) (puts ++ puts_from number (length segments) ts) (entries ++ entries_from (length segments) ts)
unfolding added_all puts_from entries_from
added_is number [] segments puts entries = rw (append-nil segments, append-nil puts, append-nil entries) refl
added_is number (t ∷ ts) segments puts entries =
    added_is number ts (segments ++ segment_of t ∷ []) (puts ++ map (put_of number (length segments) t) t.placed_bytes) (entries ++ map (entry_of (length segments)) t.marks)
    ∙ (λ i. module_contents_of (segments_more number t ts segments puts entries i) (puts_more number t ts segments puts entries i) (entries_more number t ts segments puts entries i))

pub gathered_is : (number : ℕ → ℕ) (ts : List Section) → added_all number ts empty ≡ module_contents_of (map segment_of ts) (puts_from number 0 ts) (entries_from 0 ts)
gathered_is number ts = added_is number ts [] [] []

-- ---- places rise

pub rises_weaker : (p o q r : ℕ) (qs : List Put) → is_from p o q r ≡ true → rises q r qs ≡ true → rises p o qs ≡ true
rises_weaker p o q r [] h k = refl
rises_weaker p o q r (x ∷ xs) h k =
    let parts = and_parts (is_from q r x.piece x.offset) (rises x.piece (x.offset + 1) xs) k in
    both (is_from p o x.piece x.offset) (rises x.piece (x.offset + 1) xs) (from_joined p o q r x.piece x.offset h parts.0) parts.1

next_piece : (piece from : ℕ) → is_from piece from (piece + 1) 0 ≡ true
next_piece piece from = grind (arith, nat_tests)

same_piece : (piece from offset : ℕ) → leb from offset ≡ true → is_from piece from piece offset ≡ true
same_piece piece from offset h = grind (arith, nat_tests)

placed_bytes_rise : (number : ℕ → ℕ) (piece : ℕ) (t : Section) (from : ℕ) (placed_bytes : List PlacedByte) (to : ℕ) (rest : List Put)
    → rise from (placed_byte_offsets placed_bytes) to ≡ true → rises (piece + 1) 0 rest ≡ true → rises piece from (map (put_of number piece t) placed_bytes ++ rest) ≡ true
unfolding rise
placed_bytes_rise number piece t from [] to rest h k = rises_weaker piece from (piece + 1) 0 rest (next_piece piece from) k
placed_bytes_rise number piece t from (c ∷ cs) to rest h k =
    let parts = and_parts (leb from c.offset) (rise (c.offset + 1) (placed_byte_offsets cs) to) h in
    both (is_from piece from piece c.offset) (rises piece (c.offset + 1) (map (put_of number piece t) cs ++ rest)) (same_piece piece from c.offset parts.0) (placed_bytes_rise number piece t (c.offset + 1) cs to rest parts.1 k)

pub puts_rise : (number : ℕ → ℕ) (piece : ℕ) (ts : List Section) → list_all is_section ts ≡ true → rises piece 0 (puts_from number piece ts) ≡ true
unfolding puts_from
puts_rise number piece [] h = refl
puts_rise number piece (t ∷ ts) h =
    let parts = and_parts (is_section t) (list_all is_section ts) h in
    placed_bytes_rise number piece t 0 t.placed_bytes t.length (puts_from number (piece + 1) ts) (section_parts t parts.0).0 (puts_rise number (piece + 1) ts parts.1)

-- ---- what is put at a place

-- by any part of a put: its byte, or its relocation
module _ {A : Type 0} (part : Put → Option A) where
  abbrev pub look : List Put → ℕ → ℕ → Option A
  look [] piece offset = None
  look (q ∷ qs) piece offset = if is_at q piece offset then part q else look qs piece offset

  abbrev look_in : (ℕ → ℕ) → ℕ → Section → List PlacedByte → ℕ → Option A
  look_in number piece t [] offset = None
  look_in number piece t (c ∷ cs) offset = if eqb c.offset offset then part (put_of number piece t c) else look_in number piece t cs offset

  abbrev look_at : (ℕ → ℕ) → ℕ → Option Section → ℕ → Option A
  look_at number piece None offset = None
  look_at number piece (Some t) offset = look_in number piece t t.placed_bytes offset

  other_piece : (p q r o : ℕ) → p < q → (eqb q p && eqb r o) ≡ false
  other_piece p q r o h = grind (arith, nat_tests)

  none_below : (number : ℕ → ℕ) (piece p o : ℕ) (t : Section) (placed_bytes : List PlacedByte) (rest : List Put) → p < piece → look rest p o ≡ None → look (map (put_of number piece t) placed_bytes ++ rest) p o ≡ None
  none_below number piece p o t [] rest h k = k
  none_below number piece p o t (c ∷ cs) rest h k = rw (other_piece p piece c.offset o h) (none_below number piece p o t cs rest h k)

  all_below : (number : ℕ → ℕ) (piece p o : ℕ) (ts : List Section) → p < piece → look (puts_from number piece ts) p o ≡ None
  unfolding puts_from
  all_below number piece p o [] h = refl
  all_below number piece p o (t ∷ ts) h = none_below number piece p o t t.placed_bytes (puts_from number (piece + 1) ts) h (all_below number (piece + 1) p o ts (omega arith))

  passed : (p q r o : ℕ) → q < p → (eqb q p && eqb r o) ≡ false
  passed p q r o h = grind (arith, nat_tests)

  over_piece : (number : ℕ → ℕ) (piece p o : ℕ) (t : Section) (placed_bytes : List PlacedByte) (rest : List Put) → piece < p → look (map (put_of number piece t) placed_bytes ++ rest) p o ≡ look rest p o
  over_piece number piece p o t [] rest h = refl
  over_piece number piece p o t (c ∷ cs) rest h = rw (passed p piece c.offset o h) (over_piece number piece p o t cs rest h)

  own_test : (p q r o : ℕ) → p ≡ q → (eqb q p && eqb r o) ≡ eqb r o
  own_test p q r o h = grind (arith, nat_tests)

  in_piece : (number : ℕ → ℕ) (piece p o : ℕ) (t : Section) (placed_bytes : List PlacedByte) (rest : List Put) → p ≡ piece → look rest p o ≡ None → look (map (put_of number piece t) placed_bytes ++ rest) p o ≡ look_in number piece t placed_bytes o
  in_piece number piece p o t [] rest e k = k
  in_piece number piece p o t (c ∷ cs) rest e k =
      rw (own_test p piece c.offset o e)
      (ap (λ (x : Option A). if eqb c.offset o then part (put_of number piece t c) else x) (in_piece number piece p o t cs rest e k))

  pub looked : (number : ℕ → ℕ) (ts : List Section) (piece i p o : ℕ) → p ≡ piece + i → look (puts_from number piece ts) p o ≡ look_at number p (slice_get ts i) o
  unfolding puts_from
  looked number [] piece i p o e = refl
  looked number (t ∷ ts) piece zero p o e =
      let same : p ≡ piece = omega arith in
      in_piece number piece p o t t.placed_bytes (puts_from number (piece + 1) ts) same (all_below number (piece + 1) p o ts (omega arith))
      ∙ (λ i. look_in number (sym same i) t t.placed_bytes o)
  looked number (t ∷ ts) piece (suc i) p o e = over_piece number piece p o t t.placed_bytes (puts_from number (piece + 1) ts) (omega arith) ∙ looked number ts (piece + 1) i p o (omega arith)

abbrev pub own_byte : Put → Option ℕ
own_byte q = Some q.byte

abbrev pub own_fixup : Put → Option Fixup
own_fixup q = q.fixup

same_bytes : (qs : List Put) (p o : ℕ) → put_byte qs p o ≡ look own_byte qs p o
same_bytes [] p o = refl
same_bytes (q ∷ qs) p o = ap (λ (x : Option ℕ). if is_at q p o then Some q.byte else x) (same_bytes qs p o)

by_test : {A : Type 0} (t : Bool) (x y z w : A) → (t ≡ true → x ≡ y) → z ≡ w → (if t then x else z) ≡ (if t then y else w)
by_test true x y z w f e = f refl
by_test false x y z w f e = e

same_number : (a b : ℕ) → eqb a b ≡ true → a ≡ b
same_number a b h = grind (arith, nat_tests)

map_if : (f : RelocatableByte → ℕ) (t : Bool) (x : RelocatableByte) (y : Option RelocatableByte) → option_map f (if t then Some x else y) ≡ (if t then Some (f x) else option_map f y)
map_if f true x y = refl
map_if f false x y = refl

byte_in : (number : ℕ → ℕ) (piece : ℕ) (t : Section) (placed_bytes : List PlacedByte) (o : ℕ) → look_in own_byte number piece t placed_bytes o ≡ option_map (byte_for t o) (placed_byte_at placed_bytes o)
unfolding placed_byte_at
byte_in number piece t [] o = refl
byte_in number piece t (c ∷ cs) o =
    by_test (eqb c.offset o) (Some (byte_for t c.offset c.relocatable_byte)) (Some (byte_for t o c.relocatable_byte)) (look_in own_byte number piece t cs o) (option_map (byte_for t o) (placed_byte_at cs o))
    (λ h. ap (λ (n : ℕ). Some (byte_for t n c.relocatable_byte)) (same_number c.offset o h)) (byte_in number piece t cs o)
    ∙ sym (map_if (byte_for t o) (eqb c.offset o) c.relocatable_byte (placed_byte_at cs o))

byte_look : (number : ℕ → ℕ) (piece : ℕ) (t : Option Section) (o : ℕ) → look_at own_byte number piece t o ≡ byte_at t o
byte_look number piece None o = refl
byte_look number piece (Some t) o = byte_in number piece t t.placed_bytes o

pub bytes_put : (number : ℕ → ℕ) (ts : List Section) (p o : ℕ) → put_byte (puts_from number 0 ts) p o ≡ byte_at (slice_get ts p) o
bytes_put number ts p o = same_bytes (puts_from number 0 ts) p o ∙ looked own_byte number ts 0 p p o (omega arith) ∙ byte_look number p (slice_get ts p) o

from_if : (number : ℕ → ℕ) (t : Section) (piece offset : ℕ) (b : Bool) (x : RelocatableByte) (y : Option RelocatableByte) → fixup_from number t piece offset (if b then Some x else y) ≡ (if b then fixup_for number piece offset (relocation t x) else fixup_from number t piece offset y)
from_if number t piece offset true x y = refl
from_if number t piece offset false x y = refl

fixup_in : (number : ℕ → ℕ) (piece : ℕ) (t : Section) (placed_bytes : List PlacedByte) (o : ℕ) → look_in own_fixup number piece t placed_bytes o ≡ fixup_from number t piece o (placed_byte_at placed_bytes o)
unfolding placed_byte_at
fixup_in number piece t [] o = refl
fixup_in number piece t (c ∷ cs) o =
    by_test (eqb c.offset o) (fixup_for number piece c.offset (relocation t c.relocatable_byte)) (fixup_for number piece o (relocation t c.relocatable_byte)) (look_in own_fixup number piece t cs o) (fixup_from number t piece o (placed_byte_at cs o))
    (λ h. ap (λ (n : ℕ). fixup_for number piece n (relocation t c.relocatable_byte)) (same_number c.offset o h)) (fixup_in number piece t cs o)
    ∙ sym (from_if number t piece o (eqb c.offset o) c.relocatable_byte (placed_byte_at cs o))

fixup_look : (number : ℕ → ℕ) (piece : ℕ) (t : Option Section) (o : ℕ) → look_at own_fixup number piece t o ≡ relocated_at number piece t o
fixup_look number piece None o = refl
fixup_look number piece (Some t) o = fixup_in number piece t t.placed_bytes o

pub fixups_put : (number : ℕ → ℕ) (ts : List Section) (p o : ℕ) → look own_fixup (puts_from number 0 ts) p o ≡ relocated_at number p (slice_get ts p) o
fixups_put number ts p o = looked own_fixup number ts 0 p p o (omega arith) ∙ fixup_look number p (slice_get ts p) o

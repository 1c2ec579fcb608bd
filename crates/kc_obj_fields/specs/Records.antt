-- The faults of each record, and the part that it gives (this kit's own format and codes). Of a record, `at` is where its
-- body begins in the file, and the body is as much as the file has of it: a field is checked where all of it is there.
-- `note` takes a fault down, where a rule is broken.
use Rattle.std.specs.Prelude.{ℕ, Bool, true, false, not, ◌+◌, ◌-◌, ◌==◌, ◌&&◌, ◌||◌, nat_lt, nat_le, if◌then◌else◌, Option, Some, None, is_some, List, [], ◌∷◌, length, drop, slice_index, slice_get}
use Rattle.std.specs.List.{list_any}
use Rattle.kc_obj_module.specs.declared.parts.SegKind.{SegKind}
use Rattle.kc_obj_module.specs.declared.parts.SegKind.TheVariants.{Reg, Code, Ram, Stack}
use Rattle.kc_obj_module.specs.declared.parts.Segment.{Segment}
use Rattle.kc_obj_module.specs.declared.parts.Taken.{Taken}
use Rattle.kc_obj_module.specs.declared.parts.Given.{Given}
use Rattle.kc_obj_module.specs.declared.parts.Content.{Content}
use Rattle.kc_obj_module.specs.declared.parts.Fixup.{Fixup}
use Rattle.kc_obj_module.specs.declared.parts.Lines.{Lines}
use Rattle.kc_obj_module.specs.declared.parts.Target.{Target}
use Rattle.kc_obj_module.specs.declared.parts.Target.TheVariants as targets
use Rattle.kc_obj_module.specs.Names.{is_below}
use Rattle.kc_obj_module.specs.Pieces.{kind_number, in_region, is_relocatable, has_code}
use Rattle.kc_obj_module.specs.Contents.{leaves_place, covers}
use Rattle.kc_obj_module.specs.Numbers.{width}
use Rattle.kc_obj_module.specs.Fixups.{fills, may_begin, is_zero}
use Rattle.kc_obj_module.specs.LineEntries.{line_follows}
use Rattle.kc_obj_fields.specs.Codes.{out_of_range, other_spelling, no_name}
use Rattle.kc_obj_fields.specs.Fields.{word_at, long_at, name_at, is_bad_name, Noting}

-- ---- 01: version and name of the module

abbrev pub head_faults : {C : Type 0} → Noting C → ℕ → List ℕ → C → C
head_faults note at body f =
    note (note f (nat_le 1 (length body) && not ((slice_index body 0 == 1) || (slice_index body 0 == 2))) at out_of_range)
    (nat_le 2 (length body) && is_bad_name false (drop 1 body)) (at + 1) no_name

abbrev pub lines_of_version : ℕ → Option (List Lines)
lines_of_version version = if version == 1 then None else Some []

-- ---- 02: a piece

abbrev pub kind_of : ℕ → SegKind
kind_of number = if number == 0 then Reg else (if number == 1 then Code else (if number == 2 then Ram else Stack))

abbrev pub segment_at : List ℕ → Segment
segment_at body =
    record { kind = kind_of (slice_index body 0); at = if slice_index body 1 == 0 then None else Some (word_at body 2); length = word_at body 4 }

-- after a relocatable piece whose kind is no lower
abbrev pub kind_falls : Option Segment → Segment → Bool
kind_falls None s = false
kind_falls (Some before) s = is_relocatable before.at && is_relocatable s.at && nat_le (kind_number s.kind) (kind_number before.kind)

-- a relocatable piece after an absolute one
abbrev pub comes_late : Option Segment → Segment → Bool
comes_late None s = false
comes_late (Some before) s = not (is_relocatable before.at) && is_relocatable s.at

-- the base of a relocatable piece is 0, that of an absolute one lies in the region of its kind
abbrev pub bad_base : Segment → ℕ → Bool
bad_base s base = if is_relocatable s.at then not (base == 0) else not (in_region s.kind base 0)

abbrev pub bad_length : Segment → ℕ → Bool
bad_length s base = not (is_relocatable s.at) && in_region s.kind base 0 && not (in_region s.kind base s.length)

abbrev pub kind_faults : {C : Type 0} → Noting C → ℕ → Option Segment → List ℕ → C → C
kind_faults note at before body f =
    note (note f (nat_le 1 (length body) && nat_lt 3 (slice_index body 0)) at out_of_range)
    (nat_le 2 (length body) && kind_falls before (segment_at body)) at other_spelling

abbrev pub flag_faults : {C : Type 0} → Noting C → ℕ → Option Segment → List ℕ → C → C
flag_faults note at before body f =
    note (note f (nat_le 2 (length body) && (nat_lt 1 (slice_index body 1) || ((slice_index body 1 == 1) && (slice_index body 0 == 3)))) (at + 1) out_of_range)
    (nat_le 2 (length body) && comes_late before (segment_at body)) (at + 1) other_spelling

abbrev pub segment_faults : {C : Type 0} → Noting C → ℕ → Option Segment → List ℕ → C → C
segment_faults note at before body f =
    note (note (flag_faults note at before body (kind_faults note at before body f))
    (nat_le 4 (length body) && bad_base (segment_at body) (word_at body 2)) (at + 2) out_of_range)
    (nat_le 6 (length body) && bad_length (segment_at body) (word_at body 2)) (at + 4) out_of_range

-- ---- 05: an external

abbrev pub taken_at : List ℕ → Taken
taken_at body = record { name = name_at body; register = slice_index body (slice_index body 0 + 1) == 0 }

abbrev pub taken_faults : {C : Type 0} → Noting C → ℕ → List ℕ → C → C
taken_faults note at body f =
    note (note f (nat_le 1 (length body) && is_bad_name false body) at no_name)
    (nat_le (slice_index body 0 + 2) (length body) && nat_lt 1 (slice_index body (slice_index body 0 + 1))) (at + slice_index body 0 + 1) out_of_range

-- ---- 06: a public

abbrev pub piece_of : ℕ → Option ℕ
piece_of number = if number == 0xFFFF then None else Some number

abbrev pub given_at : List ℕ → Given
given_at body = record { name = name_at body; piece = piece_of (word_at body (slice_index body 0 + 1)); value = word_at body (slice_index body 0 + 3) }

abbrev pub name_falls : Option Given → List ℕ → Bool
name_falls None name = false
name_falls (Some before) name = not (is_below before.name name)

abbrev pub given_faults : {C : Type 0} → Noting C → ℕ → Option Given → ℕ → List ℕ → C → C
given_faults note at before count body f =
    note (note (note f (nat_le 1 (length body) && is_bad_name true body) at no_name)
    (nat_le (slice_index body 0 + 1) (length body) && name_falls before (name_at body)) at other_spelling)
    (nat_le (slice_index body 0 + 3) (length body) && not (word_at body (slice_index body 0 + 1) == 0xFFFF) && not (nat_lt (word_at body (slice_index body 0 + 1)) count)) (at + slice_index body 0 + 1) out_of_range

-- ---- 03: bytes of a code piece (len: how many bytes the record's body has)

abbrev pub run_at : List ℕ → Content
run_at body = record { piece = word_at body 0; offset = word_at body 2; bytes = drop 4 body }

abbrev pub run_piece_falls : Option Content → ℕ → Bool
run_piece_falls None piece = false
run_piece_falls (Some before) piece = nat_lt piece before.piece

abbrev pub run_falls : Option Content → ℕ → ℕ → Bool
run_falls None piece offset = false
run_falls (Some before) piece offset = (before.piece == piece) && not (leaves_place before piece offset)

abbrev pub run_faults : {C : Type 0} → Noting C → ℕ → Option Content → Option Segment → ℕ → List ℕ → C → C
run_faults note at before piece len body f =
    note (note (note (note f (nat_le 2 (length body) && not (has_code piece 0)) at out_of_range)
    (nat_le 2 (length body) && run_piece_falls before (word_at body 0)) at other_spelling)
    (nat_le 4 (length body) && has_code piece 0 && not (has_code piece (word_at body 2 + (len - 4)))) (at + 2) out_of_range)
    (nat_le 4 (length body) && run_falls before (word_at body 0) (word_at body 2)) (at + 2) other_spelling

-- ---- 04: a relocation

abbrev pub target_of : ℕ → ℕ → Target
target_of code index = if code == 0 then targets.Piece index else (if code == 1 then targets.External index else targets.Number)

abbrev pub fixup_at : List ℕ → Fixup
fixup_at body =
    record { piece = word_at body 0; offset = word_at body 2; kind = slice_index body 4; target = target_of (slice_index body 5) (word_at body 6); addend = word_at body 8 }

abbrev pub fixup_piece_falls : Option Fixup → ℕ → Bool
fixup_piece_falls None piece = false
fixup_piece_falls (Some before) piece = nat_lt piece before.piece

abbrev pub fixup_falls : Option Fixup → ℕ → ℕ → Bool
fixup_falls None piece offset = false
fixup_falls (Some before) piece offset = (before.piece == piece) && nat_le offset before.offset

-- the index that a target byte wants: a piece, an external, or 0
abbrev pub bad_index : ℕ → ℕ → ℕ → ℕ → Bool
bad_index pieces externals code index =
    if code == 0 then nat_le pieces index else (if code == 1 then nat_le externals index else ((code == 2) && not (index == 0)))

abbrev pub target_faults : {C : Type 0} → Noting C → ℕ → ℕ → ℕ → List ℕ → C → C
target_faults note at pieces externals body f =
    note (note f (nat_le 6 (length body) && (nat_lt 2 (slice_index body 5) || ((slice_index body 5 == 2) && nat_lt (slice_index body 4) 2))) (at + 5) out_of_range)
    (nat_le 8 (length body) && bad_index pieces externals (slice_index body 5) (word_at body 6)) (at + 6) out_of_range

abbrev pub fixup_place_faults : {C : Type 0} → Noting C → ℕ → Option Fixup → ℕ → List ℕ → C → C
fixup_place_faults note at before pieces body f =
    note (note (note (note f (nat_le 2 (length body) && nat_le pieces (word_at body 0)) at out_of_range)
    (nat_le 2 (length body) && fixup_piece_falls before (word_at body 0)) at other_spelling)
    (nat_le 4 (length body) && fixup_falls before (word_at body 0) (word_at body 2)) (at + 2) other_spelling)
    (nat_le 5 (length body) && nat_lt 4 (slice_index body 4)) (at + 4) out_of_range

-- where in the file the byte at an offset of a piece stands (starts: where the bytes of each run begin)
unfoldable pub place_of : List Content → List ℕ → ℕ → ℕ → Option ℕ
place_of [] starts piece offset = None
place_of (c ∷ cs) [] piece offset = None
place_of (c ∷ cs) (start ∷ starts) piece offset =
    if covers c piece offset then Some (start + (offset - c.offset)) else place_of cs starts piece offset

-- the bytes of a relocation have an offset of a piece among them
abbrev pub is_under : List Fixup → ℕ → ℕ → Bool
is_under fixups piece offset = list_any (fills piece offset) fixups

-- the byte at a place of the file
abbrev pub byte_of_file : List ℕ → Option ℕ → Option ℕ
byte_of_file file None = None
byte_of_file file (Some place) = slice_get file place

abbrev pub place_or_zero : Option ℕ → ℕ
place_or_zero None = 0
place_or_zero (Some place) = place

-- the bytes of a relocation of kind 0 to 4 that stand in contents and under no earlier relocation are free
abbrev pub byte_faults : {C : Type 0} → Noting C → List ℕ → Fixup → Option ℕ → Option ℕ → C → C
byte_faults note file x first second f =
    note (note f (not (may_begin x.kind (byte_of_file file first))) (place_or_zero first) other_spelling)
    ((width x.kind == 2) && not (is_zero (byte_of_file file second))) (place_or_zero second) other_spelling

abbrev pub stands_free : List Fixup → Fixup → Option ℕ → Option ℕ → Bool
stands_free fixups x first second =
    is_some first && not (is_under fixups x.piece x.offset)
    && ((width x.kind == 1) || (is_some second && not (is_under fixups x.piece (x.offset + 1))))

abbrev pub free_faults : {C : Type 0} → Noting C → ℕ → List ℕ → List Fixup → Fixup → Option ℕ → Option ℕ → C → C
free_faults note at file fixups x first second f =
    if stands_free fixups x first second then byte_faults note file x first second f else note f true (at + 2) out_of_range

abbrev pub under_faults : {C : Type 0} → Noting C → ℕ → List ℕ → ℕ → List Content → List ℕ → List Fixup → List ℕ → C → C
under_faults note at file pieces contents starts fixups body f =
    if nat_le 5 (length body) && nat_le (slice_index body 4) 4 && nat_lt (word_at body 0) pieces
    then free_faults note at file fixups (fixup_at body) (place_of contents starts (word_at body 0) (word_at body 2)) (place_of contents starts (word_at body 0) (word_at body 2 + 1)) f
    else f

-- ---- 07: line entries

abbrev pub entry_at : ℕ → List ℕ → Lines
entry_at piece body = record { piece = piece; offset = word_at body 0; line = long_at body 2 }

abbrev pub entry_falls : Option Lines → Lines → Bool
entry_falls None l = false
entry_falls (Some before) l = (before.piece == l.piece) && not (line_follows before l)

-- (at: where the entry begins; body: from there on)
abbrev pub entry_faults : {C : Type 0} → Noting C → ℕ → Option Lines → Option Segment → ℕ → List ℕ → C → C
entry_faults note at before segment piece body f =
    note (note (note f (nat_le 2 (length body) && has_code segment 0 && not (has_code segment (word_at body 0 + 1))) at out_of_range)
    (nat_le 2 (length body) && entry_falls before (entry_at piece body)) at other_spelling)
    (nat_le 6 (length body) && (long_at body 2 == 0)) (at + 2) out_of_range

-- before: the last entry so far; block: how many entries the record before has
abbrev pub block_falls : Option Lines → ℕ → ℕ → Bool
block_falls None block piece = false
block_falls (Some before) block piece = nat_lt piece before.piece || ((before.piece == piece) && not (block == 1024))

abbrev pub block_faults : {C : Type 0} → Noting C → ℕ → Option Lines → ℕ → Option Segment → List ℕ → C → C
block_faults note at before block segment body f =
    note (note f (nat_le 2 (length body) && not (has_code segment 0)) at out_of_range)
    (nat_le 2 (length body) && block_falls before block (word_at body 0)) at other_spelling

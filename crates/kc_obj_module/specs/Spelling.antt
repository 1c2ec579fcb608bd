-- The one spelling of a module as records: a type, the length of the body (2, low byte first) and the body (this kit's own
-- format).
use Rattle.std.specs.Prelude.{ℕ, Bool, true, false, ◌/◌, ◌%◌, ◌==◌, ◌&&◌, nat_lt, if◌then◌else◌, Option, Some, None, List, [], ◌∷◌, ◌++◌, length}
use Rattle.std.specs.List.{flat_map}
use Rattle.kc_obj_module.specs.declared.parts.Segment.{Segment}
use Rattle.kc_obj_module.specs.declared.parts.Taken.{Taken}
use Rattle.kc_obj_module.specs.declared.parts.Given.{Given}
use Rattle.kc_obj_module.specs.declared.parts.Content.{Content}
use Rattle.kc_obj_module.specs.declared.parts.Fixup.{Fixup}
use Rattle.kc_obj_module.specs.declared.parts.Lines.{Lines}
use Rattle.kc_obj_module.specs.declared.parts.Target.{Target}
use Rattle.kc_obj_module.specs.declared.parts.Target.TheVariants as targets
use Rattle.kc_obj_module.specs.Object.{Object}
use Rattle.kc_obj_module.specs.Pieces.{kind_number}

-- 16 bits, low byte first
abbrev pub word_bytes : ℕ → List ℕ
word_bytes n = n % 256 ∷ n / 256 % 256 ∷ []

-- 32 bits, low byte first
abbrev pub long_bytes : ℕ → List ℕ
long_bytes n = word_bytes n ++ word_bytes (n / 65536)

abbrev pub record_bytes : ℕ → List ℕ → List ℕ
record_bytes kind body = (kind ∷ word_bytes (length body)) ++ body

-- a length byte and the characters
abbrev pub name_bytes : List ℕ → List ℕ
name_bytes name = length name % 256 ∷ name

-- ---- the bodies

-- version 1 has no line entries, version 2 has
abbrev pub version_of : Option (List Lines) → ℕ
version_of None = 1
version_of (Some lines) = 2

abbrev pub head_body : Object → List ℕ
head_body m = version_of m.lines ∷ name_bytes m.name

-- relocatable with base 0, or absolute
abbrev pub base_bytes : Option ℕ → List ℕ
base_bytes None = 0 ∷ word_bytes 0
base_bytes (Some base) = 1 ∷ word_bytes base

abbrev pub segment_body : Segment → List ℕ
segment_body s = (kind_number s.kind ∷ base_bytes s.at) ++ word_bytes s.length

-- 0 for a register, 1 for memory
abbrev pub tag_of : Bool → ℕ
tag_of true = 0
tag_of false = 1

abbrev pub taken_body : Taken → List ℕ
taken_body t = name_bytes t.name ++ tag_of t.register ∷ []

-- FFFFH says that the value is a number
abbrev pub piece_number : Option ℕ → ℕ
piece_number None = 0xFFFF
piece_number (Some piece) = piece

abbrev pub given_body : Given → List ℕ
given_body g = name_bytes g.name ++ word_bytes (piece_number g.piece) ++ word_bytes g.value

abbrev pub content_body : Content → List ℕ
content_body c = word_bytes c.piece ++ word_bytes c.offset ++ c.bytes

abbrev pub target_bytes : Target → List ℕ
target_bytes (targets.Piece piece) = 0 ∷ word_bytes piece
target_bytes (targets.External external) = 1 ∷ word_bytes external
target_bytes targets.Number = 2 ∷ word_bytes 0

abbrev pub fixup_body : Fixup → List ℕ
fixup_body f = word_bytes f.piece ++ word_bytes f.offset ++ (f.kind ∷ target_bytes f.target) ++ word_bytes f.addend

abbrev pub entry_bytes : Lines → List ℕ
entry_bytes l = word_bytes l.offset ++ long_bytes l.line

-- ---- the records

abbrev pub segment_record : Segment → List ℕ
segment_record s = record_bytes 0x02 (segment_body s)

abbrev pub taken_record : Taken → List ℕ
taken_record t = record_bytes 0x05 (taken_body t)

abbrev pub given_record : Given → List ℕ
given_record g = record_bytes 0x06 (given_body g)

abbrev pub content_record : Content → List ℕ
content_record c = record_bytes 0x03 (content_body c)

abbrev pub fixup_record : Fixup → List ℕ
fixup_record f = record_bytes 0x04 (fixup_body f)

-- the entries of one piece
abbrev pub block_record : List Lines → List ℕ
block_record [] = []
block_record (l ∷ ls) = record_bytes 0x07 (word_bytes l.piece ++ flat_map entry_bytes (l ∷ ls))

-- a record has at most 1,024 entries
abbrev pub takes_entry : List Lines → Lines → Bool
takes_entry [] next = true
takes_entry (l ∷ ls) next = (l.piece == next.piece) && nat_lt (length (l ∷ ls)) 1024

-- the entries of the record that is open, and those that follow
unfoldable pub block_records : List Lines → List Lines → List ℕ
block_records opened [] = block_record opened
block_records opened (l ∷ ls) =
    if takes_entry opened l then block_records (opened ++ l ∷ []) ls
    else (block_record opened ++ block_records (l ∷ []) ls)

abbrev pub line_records : Option (List Lines) → List ℕ
line_records None = []
line_records (Some lines) = block_records [] lines

abbrev pub spelling : Object → List ℕ
spelling m =
    record_bytes 0x01 (head_body m)
    ++ flat_map segment_record m.segments
    ++ flat_map taken_record m.externals
    ++ flat_map given_record m.publics
    ++ flat_map content_record m.contents
    ++ flat_map fixup_record m.fixups
    ++ line_records m.lines
    ++ record_bytes 0x7F []

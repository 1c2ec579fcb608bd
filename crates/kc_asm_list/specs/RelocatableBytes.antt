-- What a module has where a statement stands (after the list file of the MCS-96 Macro Assembler User's Guide, in outline).
use Rattle.std.specs.Prelude.{ℕ, suc, Bool, ◌+◌, ◌-◌, ◌==◌, ◌&&◌, nat_lt, if◌then◌else◌, List, [], ◌∷◌, Option, Some, None, is_some, unwrap_or}
use Rattle.std.specs.List.{list_any, prefix_len}
use Rattle.kc_base.specs.Digits.{hex}
use Rattle.kc_obj_module.specs.declared.parts.SegKind.{SegKind}
use Rattle.kc_obj_module.specs.declared.parts.Segment.{Segment}
use Rattle.kc_obj_module.specs.Object.{Object}
use Rattle.kc_obj_module.specs.Pieces.{kind_number, is_relocatable}
use Rattle.kc_obj_module.specs.Contents.{content_at}
use Rattle.kc_obj_module.specs.Fixups.{fills}
use Rattle.kc_asm_list.specs.declared.spot.Spot.{Spot}

-- ---- its piece: the relocatable pieces of a module stand first, one of a kind, and the absolute ones as the source opens them

abbrev pub is_of_kind : SegKind → Segment → Bool
is_of_kind kind s = is_relocatable s.at && (kind_number s.kind == kind_number kind)

-- the number of the relocatable piece of a kind; where there is none, that of no piece
unfoldable pub number_of : SegKind → List Segment → ℕ
number_of kind [] = 0
number_of kind (s ∷ ss) = if is_of_kind kind s then 0 else suc (number_of kind ss)

abbrev pub piece_of : List Segment → Spot → ℕ
piece_of segments s = if nat_lt s.piece 3 then number_of s.kind segments else prefix_len (λ g. is_relocatable g.at) segments + (s.piece - 3)

-- ---- bytes: places of an absolute piece are addresses

abbrev pub offset_of : Spot → ℕ → ℕ
offset_of s place = place - unwrap_or s.at 0

abbrev pub byte_at : Object → Spot → ℕ → Option ℕ
byte_at m s place = content_at m.contents (piece_of m.segments s) (offset_of s place)

-- a relocation fills in the byte at a place
abbrev pub is_filled : Object → Spot → ℕ → Bool
is_filled m s place = list_any (fills (piece_of m.segments s) (offset_of s place)) m.fixups

-- two hexadecimal digits, behind a blank, or behind `*` where a relocation fills the byte in
abbrev pub byte_text : Bool → ℕ → List ℕ
byte_text filled byte = (if filled then 42 else 32) ∷ hex 2 byte

abbrev pub reported_byte : Bool → Option ℕ → List ℕ
reported_byte filled None = []
reported_byte filled (Some byte) = byte_text filled byte

abbrev pub relocatable_text : Object → Spot → ℕ → List ℕ
relocatable_text m s place = reported_byte (is_filled m s place) (byte_at m s place)

-- how many bytes stand from a place up to another one: all, or none where a statement reserves them or passes them over
abbrev pub reported : Object → Spot → ℕ → ℕ → ℕ
reported m s from to = if is_some (byte_at m s from) then to - from else 0

-- The instructions of sources at their places, each with its line (this kit's own).
use Rattle.std.specs.Prelude.{◌≡◌, ℕ, zero, suc, ◌+◌, ◌-◌, nat_le, nat_lt, ◌&&◌, ◌==◌, Bool, true, false, if◌then◌else◌, List, [], ◌∷◌, flat_map, drop, take, Option, Some, None, is_none}
use Rattle.std.specs.List.{filter}
use Rattle.std.specs.List.Sorted.{IsNonDecreasingBy}
use Rattle.kc_base.specs.Limits.{image_start}
use Rattle.kc_code.specs.declared.reader.Decoded.{Decoded}
use Rattle.kc_code.specs.declared.reader.Decoded.TheVariants.{Insn}
use Rattle.kc_code.specs.Reading.{decode_of}
use Rattle.kc_obj_module.specs.declared.parts.SegKind.{SegKind}
use Rattle.kc_obj_module.specs.declared.parts.SegKind.TheVariants.{Code}
use Rattle.kc_obj_module.specs.declared.parts.Segment.{Segment}
use Rattle.kc_obj_module.specs.Numbers.{Bases}
use Rattle.kc_obj_module.specs.Object.{Object}
use Rattle.kc_link_place.specs.BaseLists.{BaseLists, bases_in}
use Rattle.kc_profile.specs.Sights.{is_branch}
use Rattle.kc_asm_list.specs.declared.spot.Spot.{Spot}
use Rattle.kc_asm_list.specs.Listed.{AreInstructionsOf}
use Rattle.kc_profile.specs.declared.source.Instruction.{Instruction}
use Rattle.kc_profile.specs.declared.source.Source.{Source}

-- ---- the addresses of a statement

abbrev pub is_code : SegKind → Bool
is_code Code = true
is_code _ = false

abbrev pub is_relocatable_code : Segment → Bool
is_relocatable_code s = is_none s.at && is_code s.kind

-- where the relocatable code of a module stands: its first such piece, of pieces from a number on
unfoldable pub code_base_from : ℕ → List Segment → Bases → ℕ
code_base_from number [] bases = 0
code_base_from number (s ∷ ss) bases = if is_relocatable_code s then bases.piece number else code_base_from (number + 1) ss bases

-- pieces are numbered in 16 bits
abbrev pub code_base : List Segment → Bases → ℕ
code_base segments bases = code_base_from 0 (take 0x10000 segments) bases

abbrev pub from_base : Option ℕ → ℕ → ℕ
from_base None base = base
from_base (Some at) base = 0

-- ---- its instructions: they stand in the image from its first address up to that behind it

abbrev pub is_in_image : ℕ → Bool
is_in_image at = nat_le image_start at && nat_lt at 0x10000

abbrev pub decoded_at : List ℕ → ℕ → Decoded
decoded_at image at = decode_of (drop (at - image_start) image)

-- the instruction that is decoded at an address, and those behind it
abbrev pub with_decoded : ℕ → ℕ → Decoded → (ℕ → List Instruction) → List Instruction
with_decoded line at (Insn insn length) behind = record { line = line; addr = at; is_branch = is_branch insn } ∷ behind length
with_decoded line at _ behind = []

-- at most so many, up to an address
unfoldable pub instructions_from : ℕ → ℕ → List ℕ → ℕ → ℕ → List Instruction
instructions_from zero line image at end = []
instructions_from (suc more) line image at end =
    if nat_lt at end && is_in_image at then with_decoded line at (decoded_at image at) (λ length. instructions_from more line image (at + length) end) else []

abbrev pub instructions_of : List ℕ → ℕ → Spot → List Instruction
instructions_of image base s = instructions_from (s.after - s.place) s.line image (from_base s.at base + s.place) (from_base s.at base + s.after)

-- ---- a source: by rising line, those of a line in the order of its statements

abbrev pub is_on : ℕ → Instruction → Bool
is_on line i = i.line == line

pub record AreByLine (own sorted : List Instruction) : Type 0 where
  pub rises : IsNonDecreasingBy (λ (i : Instruction). i.line) sorted
  pub same : (line : ℕ) → filter (is_on line) sorted ≡ filter (is_on line) own

-- the instructions of a source with a text, at the places of its module
pub record AreOf (text image : List ℕ) (m : Object) (bases : BaseLists) (instructions : List Instruction) : Type 0 where
  pub spots : List Spot
  pub are_own : AreInstructionsOf text spots
  pub by_line : AreByLine (flat_map (instructions_of image (code_base m.segments (bases_in bases))) spots) instructions

pub record IsSource (name text image : List ℕ) (m : Object) (bases : BaseLists) (source : Source) : Type 0 where
  pub named : source.name.now ≡ name
  pub instructions : AreOf text image m bases source.instructions.items

-- one of each file, in this order
unfoldable pub AreSources : List (List ℕ) → List (List ℕ) → List ℕ → List Object → List BaseLists → List Source → Type 0
AreSources [] texts image ms bases sources = sources ≡ []
AreSources (name ∷ names) (text ∷ texts) image (m ∷ ms) (bases ∷ more) (source ∷ sources) = IsSource name text image m bases source × AreSources names texts image ms more sources
AreSources _ _ image _ _ _ = ⊥

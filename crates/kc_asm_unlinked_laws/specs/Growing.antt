-- A part keeps whole numbers that fit while relocatable bytes are written at its end.
use Rattle.std.specs.Prelude.{◌≡◌, ℕ, ◌+◌, Some, None, List, slice_get}
use Rattle.kc_obj_module.specs.Pieces.{kind_number}
use Rattle.kc_asm_encode.specs.declared.relocatable_byte.RelocatableByte.{RelocatableByte}
use Rattle.kc_asm_encode.specs.Relocating.{misfit}
use Rattle.kc_asm_encode.specs.Pairs.{IsPaired}
use Rattle.kc_asm_section.specs.Section.{Section}
use Rattle.kc_asm_section.specs.Writing.{IsLonger}
use Rattle.kc_asm_section.specs.Order.{start_of}
use Rattle.kc_asm_unlinked_laws.specs.Settled.{HasFirsts, HasNoMisfit}

abbrev pub FirstsStay : Type 0
FirstsStay = (t u : Section) (relocatable_bytes : List RelocatableByte) → IsLonger t relocatable_bytes u → HasFirsts t → IsPaired relocatable_bytes → HasFirsts u

-- relocatable bytes that are written behind a part, each at its place, have no misfit
abbrev pub FitBehind : Section → List RelocatableByte → Type 0
FitBehind t relocatable_bytes = (k : ℕ) (relocatable_byte : RelocatableByte) → slice_get relocatable_bytes k ≡ Some relocatable_byte
    → misfit t.at (kind_number t.kind) (start_of t.at + (t.length + k)) relocatable_byte ≡ None

abbrev pub NoMisfitStays : Type 0
NoMisfitStays = (t u : Section) (relocatable_bytes : List RelocatableByte) → IsLonger t relocatable_bytes u → HasNoMisfit t → FitBehind t relocatable_bytes → HasNoMisfit u

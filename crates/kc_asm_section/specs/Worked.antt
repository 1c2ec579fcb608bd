-- A worked unlinked module: jumps to an external and to a number, words, reserved bytes, an absolute part, and an empty part that
-- a public names.
use Rattle.std.specs.Prelude.{ℕ, false, Some, None, List, [], ◌∷◌, codes}
use Rattle.kc_expr.specs.declared.values.Base.{Base}
use Rattle.kc_expr.specs.declared.values.Base.TheVariants.{Fixed, Piece, External}
use Rattle.kc_expr.specs.declared.values.Tag.TheVariants.{Memory}
use Rattle.kc_expr.specs.declared.values.Value.{Value}
use Rattle.kc_obj_module.specs.declared.parts.SegKind.TheVariants.{Reg, Code, Ram}
use Rattle.kc_obj_module.specs.declared.parts.Taken.{Taken}
use Rattle.kc_asm_encode.specs.declared.relocatable_byte.RelocatableByte.{RelocatableByte}
use Rattle.kc_asm_encode.specs.declared.relocatable_byte.RelocatableByte.TheVariants.{Plain, First, Second}
use Rattle.kc_asm_section.specs.declared.unlinked.Public.{Public}
use Rattle.kc_asm_section.specs.Section.{Section, section_of, blank, placed_byte, mark}

abbrev pub value : Base → ℕ → Value
value base number = record { base = base; tag = Memory; number = number }

abbrev pub first : ℕ → ℕ → Base → ℕ → RelocatableByte
first kind start base number = First kind start (value base number)

abbrev pub second : ℕ → Base → ℕ → RelocatableByte
second kind base number = Second kind (value base number)

-- a jump to an external, a byte of filling, two words, a jump to 2100H, a short call, three bytes reserved, a byte
abbrev pub code : Section
code =
    section_of Code None 17
    (placed_byte 0 (Plain 0xE7) ∷ placed_byte 1 (first 4 0 (External 0) 0) ∷ placed_byte 2 (second 4 (External 0) 0) ∷ placed_byte 3 (Plain 0xFF)
    ∷ placed_byte 4 (first 0 0 (Piece 1) 2) ∷ placed_byte 5 (second 0 (Piece 1) 2) ∷ placed_byte 6 (first 0 0 (External 1) 0) ∷ placed_byte 7 (second 0 (External 1) 0)
    ∷ placed_byte 8 (Plain 0xE7) ∷ placed_byte 9 (first 4 0 Fixed 0x2100) ∷ placed_byte 10 (second 4 Fixed 0x2100)
    ∷ placed_byte 11 (first 3 0x28 (External 0) 0) ∷ placed_byte 12 (second 3 (External 0) 0) ∷ placed_byte 16 (Plain 7) ∷ [])
    (mark 0 8 ∷ mark 4 9 ∷ mark 8 10 ∷ mark 11 11 ∷ mark 16 13 ∷ [])

-- a load of the address of the code, and the jump to 2100H
abbrev pub absolute : Section
absolute =
    section_of Code (Some 0x2080) 7
    (placed_byte 0 (Plain 0xA1) ∷ placed_byte 1 (first 0 0 (Piece 1) 0) ∷ placed_byte 2 (second 0 (Piece 1) 0) ∷ placed_byte 3 (Plain 0x20)
    ∷ placed_byte 4 (Plain 0xE7) ∷ placed_byte 5 (first 4 0 Fixed 0x2100) ∷ placed_byte 6 (second 4 Fixed 0x2100) ∷ [])
    (mark 0 15 ∷ mark 4 16 ∷ [])

abbrev pub parts : List Section
parts = blank Reg None ∷ code ∷ blank Ram None ∷ absolute ∷ []

abbrev pub public : List ℕ → Base → ℕ → Public
public name base number = record { name = name; value = value base number }

abbrev pub publics : List Public
publics = public (codes "Z") Fixed 0x1234 ∷ public (codes "A") (Piece 1) 0 ∷ public (codes "LONE") (Piece 0) 0 ∷ []

abbrev pub taken : List ℕ → Taken
taken name = record { name = name; register = false }

abbrev pub externals : List Taken
externals = taken (codes "PROC") ∷ taken (codes "PLACE") ∷ []

-- What stands at the places of a module.
use Rattle.std.specs.Prelude.{ℕ, Bool, true, ◌+◌, Option, Some, None}
use Rattle.kc_expr.specs.declared.values.Base.{Base}
use Rattle.kc_expr.specs.declared.values.Base.TheVariants.{Fixed, Absolute, Piece, External}
use Rattle.kc_expr.specs.declared.values.Value.{Value}
use Rattle.kc_obj_module.specs.declared.parts.Fixup.{Fixup}
use Rattle.kc_obj_module.specs.declared.parts.Lines.{Lines}
use Rattle.kc_obj_module.specs.declared.parts.Target.{Target}
use Rattle.kc_obj_module.specs.declared.parts.Target.TheVariants as targets
use Rattle.kc_obj_module.specs.Pieces.{kind_number}
use Rattle.kc_obj_module.specs.Fixups.{may_begin}
use Rattle.kc_asm_encode.specs.declared.relocatable_byte.RelocatableByte.{RelocatableByte}
use Rattle.kc_asm_encode.specs.declared.relocatable_byte.RelocatableByte.TheVariants.{Plain, First, Second}
use Rattle.kc_asm_encode.specs.Relocating.{shown}
use Rattle.kc_asm_section.specs.declared.part.PlacedByte.{PlacedByte}
use Rattle.kc_asm_section.specs.declared.part.Mark.{Mark}
use Rattle.kc_asm_section.specs.Section.{Section}
use Rattle.kc_asm_section.specs.declared.puts.Put.{Put}
use Rattle.kc_asm_section.specs.Order.{start_of, relocation}

-- an address is a number alone; the pieces have their numbers in the module
abbrev pub target_of : (ℕ → ℕ) → Base → Target
target_of number Fixed = targets.Number
target_of number Absolute = targets.Number
target_of number (Piece part) = targets.Piece (number part)
target_of number (External external) = targets.External external

-- the relocation that fills in a value: its number is the addend
abbrev pub fixup_for : (ℕ → ℕ) → ℕ → ℕ → Option (ℕ × Value) → Option Fixup
fixup_for number piece offset None = None
fixup_for number piece offset (Some r) =
    Some (record { piece = piece; offset = offset; kind = r.0; target = target_of number r.1.base; addend = r.1.number })

-- the byte that the module has for a relocatable byte of a part
abbrev pub byte_for : Section → ℕ → RelocatableByte → ℕ
byte_for t offset relocatable_byte = shown t.at (kind_number t.kind) (start_of t.at + offset) relocatable_byte

abbrev pub put_of : (ℕ → ℕ) → ℕ → Section → PlacedByte → Put
put_of number piece t c = record {
  piece = piece;
  offset = c.offset;
  byte = byte_for t c.offset c.relocatable_byte;
  fixup = fixup_for number piece c.offset (relocation t c.relocatable_byte);
}

abbrev pub entry_of : ℕ → Mark → Lines
entry_of piece m = record { piece = piece; offset = m.offset; line = m.line }

-- what a number is added to is 0, or the opcode of a jump of 11 bits
abbrev pub has_start : RelocatableByte → Bool
has_start (Plain b) = true
has_start (First kind start v) = may_begin kind (Some start)
has_start (Second kind v) = true

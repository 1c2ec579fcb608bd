-- A number that is printed as a byte is below 256.
use Rattle.std.proofs.Common.{◌≡◌, ℕ, ◌<◌, Bool, true, false, arith}
use Rattle.std.specs.Prelude.{◌%◌, nat_lt}
use Rattle.std.proofs.lemmas.Grind.{common_steps}
use Rattle.kc_isa.specs.declared.table.Shape.{Shape}
use Rattle.kc_isa.specs.declared.table.Shape.TheVariants.{Nothing, One, Two, Four, FourOne, FourTwo, Exchange, CountOne, Near, Conditional, BitTest, Loop, TableJump, Far, Key}
use Rattle.kc_isa.specs.declared.insn.Operand.{Operand}
use Rattle.kc_isa.specs.declared.insn.Operand.TheVariants.{Absent, Reg, Imm, Indirect, Increment, Short, Long, Count, Disp}
use Rattle.kc_isa.specs.Formed.{operand_fits, mode_fits}
use Rattle.kc_isa.specs.Layout.{layout_of}
use Rattle.kc_code.specs.Text.{FitsNumber, is_byte_number}

mode_number : (mode : ℕ) (byte : Bool) (n : ℕ) → mode_fits mode byte (Imm n) ≡ true → byte ≡ true → n < 256
mode_number mode true n h b = grind (arith, common_steps)
mode_number mode false n h b = absurd (cc b)

key_number : (n : ℕ) → nat_lt n 256 ≡ true → n < 256
key_number n h = grind (arith, common_steps)

shape_number : (shape : Shape) (opcode : ℕ) (byte : Bool) (n : ℕ) → operand_fits (layout_of shape).form opcode byte (Imm n) ≡ true → is_byte_number shape byte ≡ true → n < 256
shape_number Nothing opcode byte n h b = absurd (cc h)
shape_number One opcode byte n h b = absurd (cc h)
shape_number Two opcode byte n h b = absurd (cc h)
shape_number Four opcode byte n h b = mode_number (opcode % 4) byte n h b
shape_number FourOne opcode byte n h b = mode_number (opcode % 4) byte n h b
shape_number FourTwo opcode byte n h b = mode_number (opcode % 4) byte n h b
shape_number Exchange opcode byte n h b = mode_number (opcode % 4) byte n h b
shape_number CountOne opcode byte n h b = absurd (cc h)
shape_number Near opcode byte n h b = absurd (cc h)
shape_number Conditional opcode byte n h b = absurd (cc h)
shape_number BitTest opcode byte n h b = absurd (cc h)
shape_number Loop opcode byte n h b = absurd (cc h)
shape_number TableJump opcode byte n h b = absurd (cc h)
shape_number Far opcode byte n h b = absurd (cc h)
shape_number Key opcode byte n h b = key_number n h

pub fits_number : (shape : Shape) (opcode : ℕ) (byte : Bool) (o : Operand) → operand_fits (layout_of shape).form opcode byte o ≡ true → FitsNumber (is_byte_number shape byte) o
fits_number shape opcode byte Absent h = tt
fits_number shape opcode byte (Reg n) h = tt
fits_number shape opcode byte (Imm n) h = shape_number shape opcode byte n h
fits_number shape opcode byte (Indirect n) h = tt
fits_number shape opcode byte (Increment n) h = tt
fits_number shape opcode byte (Short base offset) h = tt
fits_number shape opcode byte (Long base offset) h = tt
fits_number shape opcode byte (Count n) h = tt
fits_number shape opcode byte (Disp d) h = tt

-- What an instruction with values is once the bases are known.
use Rattle.std.specs.Prelude.{ℕ, map}
use Rattle.std.specs.Int.{w16, cast_signed}
use Rattle.kc_isa.specs.declared.insn.Operand.{Operand}
use Rattle.kc_isa.specs.declared.insn.Operand.TheVariants as operands
use Rattle.kc_isa.specs.declared.insn.Insn.{Insn}
use Rattle.kc_obj_module.specs.Numbers.{Bases, distance}
use Rattle.kc_asm_encode.specs.Filling.{address}
use Rattle.kc_asm_encode.specs.declared.word.Word.{Word}
use Rattle.kc_asm_encode.specs.declared.word.Word.TheVariants.{Absent, Register, Immediate, Indirect, Increment, Short, Long, Count, Jump}
use Rattle.kc_asm_encode.specs.declared.word.RelocatableInsn.{RelocatableInsn}

-- the operand, where the next instruction begins at an address
abbrev pub operand_of : Bases → ℕ → Word → Operand
operand_of bases next Absent = operands.Absent
operand_of bases next (Register v) = operands.Reg (address bases v)
operand_of bases next (Immediate v) = operands.Imm (address bases v)
operand_of bases next (Indirect v) = operands.Indirect (address bases v)
operand_of bases next (Increment v) = operands.Increment (address bases v)
operand_of bases next (Short base offset) = operands.Short (address bases base) offset
operand_of bases next (Long base offset) = operands.Long (address bases base) (address bases offset)
operand_of bases next (Count v) = operands.Count (address bases v)
operand_of bases next (Jump v) = operands.Disp (cast_signed w16 (distance (address bases v) next))

abbrev pub insn_of : Bases → ℕ → RelocatableInsn → Insn
insn_of bases next w =
    record { opcode = w.opcode; signed = w.signed; operand = operand_of bases next w.operand; regs = map (address bases) w.regs }

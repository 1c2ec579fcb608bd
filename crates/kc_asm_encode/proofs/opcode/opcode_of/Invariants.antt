use Rattle.std.proofs.Common.{◌≡◌, ◌-◌}
use Rattle.kc_lex.specs.Instructions.{least}
use Rattle.kc_asm_encode.specs.Opcodes.{opcode_of, is_opcode_for}
use Rattle.kc_asm_encode.proofs.opcode.opcode_of.Given as goal

abbrev pub invariant-loop-opcode : goal.invariant-loop-opcode
invariant-loop-opcode l = opcode_of l.word l.args l.signed ≡ least (is_opcode_for l.word l.args l.signed) (256 - l.opcode) l.opcode

-- The instructions that an operation stands for, with values in the places of their numbers
-- (after the MCS-96 Macro Assembler User's Guide, "Operands"; 80C196KC User's Manual, "Instruction Format").
use Rattle.std.specs.Prelude.{ℕ, Bool, true, false, Option, Some, None, List, [], ◌∷◌, ◌++◌}
use Rattle.std.specs.Option.{option_map}
use Rattle.kc_expr.specs.declared.values.Value.{Value}
use Rattle.kc_expr.specs.Meaning.{plain}
use Rattle.kc_isa.specs.declared.table.Shape.{Shape}
use Rattle.kc_isa.specs.declared.table.Shape.TheVariants as shapes
use Rattle.kc_isa.specs.Names.{row_at}
use Rattle.kc_asm_encode.specs.declared.argument.Argument.{Argument}
use Rattle.kc_branch.specs.declared.piece.Form.{Form}
use Rattle.kc_asm_encode.specs.declared.word.Word.{Word}
use Rattle.kc_asm_encode.specs.declared.word.Word.TheVariants.{Absent, Immediate, Count, Jump}
use Rattle.kc_asm_encode.specs.declared.word.RelocatableInsn.{RelocatableInsn}
use Rattle.kc_asm_encode.specs.Values.{argument, value_of}
use Rattle.kc_asm_encode.specs.Sources.{source}
use Rattle.kc_asm_encode.specs.Opcodes.{source_of, opcode_of}
use Rattle.kc_asm_encode.specs.Branches.{Line, in_full}

abbrev pub no_regs : List Value
no_regs = plain 0 ∷ plain 0 ∷ plain 0 ∷ []

abbrev pub one_reg : Value → List Value
one_reg a = a ∷ plain 0 ∷ plain 0 ∷ []

abbrev pub two_regs : Value → Value → List Value
two_regs a b = a ∷ b ∷ plain 0 ∷ []

-- the operands stand destination first in the source, and last in the bytes
abbrev pub operand_for : Shape → List Argument → Word
operand_for shapes.Nothing args = Absent
operand_for shapes.One args = Absent
operand_for shapes.Two args = Absent
operand_for shapes.Four args = source (source_of shapes.Four args)
operand_for shapes.FourOne args = source (source_of shapes.FourOne args)
operand_for shapes.FourTwo args = source (source_of shapes.FourTwo args)
operand_for shapes.Exchange args = source (source_of shapes.Exchange args)
operand_for shapes.CountOne args = Count (value_of (argument args 1))
operand_for shapes.Near args = Jump (value_of (argument args 0))
operand_for shapes.Conditional args = Jump (value_of (argument args 0))
operand_for shapes.BitTest args = Jump (value_of (argument args 2))
operand_for shapes.Loop args = Jump (value_of (argument args 1))
operand_for shapes.TableJump args = Absent
operand_for shapes.Far args = Jump (value_of (argument args 0))
operand_for shapes.Key args = Immediate (value_of (argument args 0))

-- TIJMP is written table, index, mask; its bytes are index, mask, table
abbrev pub regs_for : Shape → List Argument → List Value
regs_for shapes.One args = one_reg (value_of (argument args 0))
regs_for shapes.Two args = two_regs (value_of (argument args 1)) (value_of (argument args 0))
regs_for shapes.FourOne args = one_reg (value_of (argument args 0))
regs_for shapes.FourTwo args = two_regs (value_of (argument args 1)) (value_of (argument args 0))
regs_for shapes.Exchange args = one_reg (value_of (argument args 0))
regs_for shapes.CountOne args = one_reg (value_of (argument args 0))
regs_for shapes.BitTest args = one_reg (value_of (argument args 0))
regs_for shapes.Loop args = one_reg (value_of (argument args 0))
regs_for shapes.TableJump args = value_of (argument args 1) ∷ value_of (argument args 2) ∷ value_of (argument args 0) ∷ []
regs_for shapes.Nothing args = no_regs
regs_for shapes.Four args = no_regs
regs_for shapes.Near args = no_regs
regs_for shapes.Conditional args = no_regs
regs_for shapes.Far args = no_regs
regs_for shapes.Key args = no_regs

abbrev pub laid : ℕ → Bool → List Argument → Shape → RelocatableInsn
laid opcode signed args shape = record { opcode = opcode; signed = signed; operand = operand_for shape args; regs = regs_for shape args }

abbrev pub instruction_at : Bool → List Argument → ℕ → Option RelocatableInsn
instruction_at signed args opcode = option_map (λ row. laid opcode signed args row.shape) (row_at opcode signed)

abbrev pub signed_instruction : List ℕ → List Argument → Option RelocatableInsn
signed_instruction word args = elim (opcode_of word args true) [ None ↦ None | Some opcode ↦ instruction_at true args opcode ]

-- an instruction as it is written, if there is one
unfoldable pub instruction : List ℕ → List Argument → Option RelocatableInsn
instruction word args = elim (opcode_of word args false) [ None ↦ signed_instruction word args | Some opcode ↦ instruction_at false args opcode ]

abbrev pub listed : Option RelocatableInsn → List RelocatableInsn
listed None = []
listed (Some w) = w ∷ []

abbrev pub all_lines : List Line → List RelocatableInsn
all_lines [] = []
all_lines (l ∷ ls) = listed (instruction l.word l.args) ++ all_lines ls

-- the instructions of an operation that stands at a place; a generic branch has a form
unfoldable pub instructions : List ℕ → List Argument → Form → Value → List RelocatableInsn
instructions word args form here = all_lines (in_full word args form here)

-- what an empty place of a list holds
abbrev pub nop : RelocatableInsn
nop = record { opcode = 0xFD; signed = false; operand = Absent; regs = no_regs }

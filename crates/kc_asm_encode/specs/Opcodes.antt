-- The opcode of an instruction as it is written: reported from the instruction table alone. It is the first opcode, of those
-- behind FEH where no other is, whose row has the mnemonic, as many operands, and the mode of S or the number of the bit
-- in its low bits (80C196KC User's Manual, "Opcode Map").
use Rattle.std.specs.Prelude.{ℕ, Bool, false, ◌-◌, ◌%◌, ◌==◌, ◌&&◌, Option, Some, None, List, length}
use Rattle.std.specs.Str.{bytes_eq}
use Rattle.kc_isa.specs.declared.table.Shape.{Shape}
use Rattle.kc_isa.specs.declared.table.Shape.TheVariants.{Nothing, One, Two, Four, FourOne, FourTwo, Exchange, CountOne, Near, Conditional, BitTest, Loop, TableJump, Far, Key}
use Rattle.kc_isa.specs.Names.{Shown, row_at}
pub use Rattle.kc_lex.specs.Instructions.{least}
use Rattle.kc_asm_encode.specs.declared.argument.Argument.{Argument}
use Rattle.kc_asm_encode.specs.Values.{argument, bit_of}
use Rattle.kc_asm_encode.specs.Sources.{mode}

-- how many operands are written
abbrev pub operand_count : Shape → ℕ
operand_count Nothing = 0
operand_count One = 1
operand_count Two = 2
operand_count Four = 1
operand_count FourOne = 2
operand_count FourTwo = 3
operand_count Exchange = 2
operand_count CountOne = 2
operand_count Near = 1
operand_count Conditional = 1
operand_count BitTest = 3
operand_count Loop = 2
operand_count TableJump = 3
operand_count Far = 1
operand_count Key = 1

-- S is the last operand
abbrev pub source_of : Shape → List Argument → Argument
source_of shape args = argument args (operand_count shape - 1)

-- what the low bits of an opcode say: a mode, a bit, or the high bits of a distance
abbrev pub low_bits : Shape → ℕ → ℕ
low_bits Four opcode = opcode % 4
low_bits FourOne opcode = opcode % 4
low_bits FourTwo opcode = opcode % 4
low_bits Exchange opcode = opcode % 4
low_bits BitTest opcode = opcode % 8
low_bits Near opcode = opcode % 8
low_bits shape opcode = 0

-- what they have to say
abbrev pub wanted_bits : Shape → List Argument → ℕ
wanted_bits Four args = mode (source_of Four args)
wanted_bits FourOne args = mode (source_of FourOne args)
wanted_bits FourTwo args = mode (source_of FourTwo args)
wanted_bits Exchange args = mode (source_of Exchange args)
wanted_bits BitTest args = bit_of (argument args 1)
wanted_bits shape args = 0

abbrev pub is_row_for : List ℕ → List Argument → ℕ → Shown → Bool
is_row_for word args opcode row =
    bytes_eq row.name word && (operand_count row.shape == length args && low_bits row.shape opcode == wanted_bits row.shape args)

abbrev pub is_opcode_for : List ℕ → List Argument → Bool → ℕ → Bool
is_opcode_for word args signed opcode = elim (row_at opcode signed) [ None ↦ false | Some row ↦ is_row_for word args opcode row ]

unfoldable pub opcode_of : List ℕ → List Argument → Bool → Option ℕ
opcode_of word args signed = least (is_opcode_for word args signed) 256 0

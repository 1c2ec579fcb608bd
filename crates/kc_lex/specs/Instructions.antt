-- Which words are instructions, and what operands each takes, by the instruction table alone. A word is one if some
-- row has it as its mnemonic, and the first such row says its operands (80C196KC User's Manual, "Instruction Set"; MCS-96 Macro
-- Assembler User's Guide, "Operands").
use Rattle.std.specs.Prelude.{ℕ, zero, suc, Bool, true, false, ◌+◌, ◌-◌, ◌%◌, if◌then◌else◌, List, Option, Some, None}
use Rattle.std.specs.Option.{option_map}
use Rattle.std.specs.Str.{bytes_eq}
use Rattle.kc_isa.specs.declared.table.Shape.{Shape}
use Rattle.kc_isa.specs.declared.table.Shape.TheVariants.{Nothing, One, Two, Four, FourOne, FourTwo, Exchange, CountOne, Near, Conditional, BitTest, Loop, TableJump, Far, Key}
use Rattle.kc_isa.specs.declared.table.Group.{Group}
use Rattle.kc_isa.specs.declared.table.Group.TheVariants.{Jump}
use Rattle.kc_isa.specs.Names.{Shown, row_at}
use Rattle.kc_isa.specs.declared.table.Listed.{Listed}
use Rattle.kc_lex.specs.declared.words.Operands.{Operands}
use Rattle.kc_lex.specs.declared.words.Operands.TheVariants as operands

-- the least of so many numbers from one on that passes a test
unfoldable pub least : (ℕ → Bool) → ℕ → ℕ → Option ℕ
least p zero from = None
least p (suc count) from = if p from then Some from else least p count (from + 1)

abbrev pub is_called : List ℕ → Option Shown → Bool
is_called word None = false
is_called word (Some row) = bytes_eq row.name word

-- whether the row of an opcode, or of one behind FEH, has this mnemonic
abbrev pub has_name : List ℕ → Bool → ℕ → Bool
has_name word signed opcode = is_called word (row_at opcode signed)

unfoldable pub first_opcode : List ℕ → Bool → Option ℕ
first_opcode word signed = least (has_name word signed) 256 0

-- S may be a number where the second of the four modes has a row
abbrev pub takes_number : List ℕ → Bool → ℕ → Bool
takes_number word signed opcode = has_name word signed (opcode - opcode % 4 + 1)

abbrev pub is_jump : Group → Bool
is_jump Jump = true
is_jump group = false

-- the operands by the bytes behind the opcode. A row of three operands has one of two beside it; a jump by a register also leads,
-- as a generic branch, to a plain target
abbrev pub operands_in : Shape → Bool → Bool → Operands
operands_in Nothing numbers jumps = operands.Nothing
operands_in One numbers jumps = if jumps then operands.Branch else operands.One
operands_in Two numbers jumps = operands.Pair
operands_in Four numbers jumps = if numbers then operands.Source else operands.Place
operands_in FourOne numbers jumps = if numbers then operands.Two else operands.Store
operands_in FourTwo numbers jumps = operands.TwoOrThree
operands_in Exchange numbers jumps = operands.Exchange
operands_in CountOne numbers jumps = operands.Shift
operands_in Near numbers jumps = operands.One
operands_in Conditional numbers jumps = operands.One
operands_in BitTest numbers jumps = operands.Triple
operands_in Loop numbers jumps = operands.Pair
operands_in TableJump numbers jumps = operands.Table
operands_in Far numbers jumps = operands.One
operands_in Key numbers jumps = operands.Key

abbrev pub operands_at : List ℕ → Bool → ℕ → Option Operands
operands_at word signed opcode = option_map (λ row. operands_in row.shape (takes_number word signed opcode) (is_jump row.group)) (row_at opcode signed)

-- by the first opcode, which stands behind FEH where no other is
abbrev pub operands_from : List ℕ → Option ℕ → Option ℕ → Option Operands
operands_from word (Some opcode) other = operands_at word false opcode
operands_from word None (Some opcode) = operands_at word true opcode
operands_from word None None = None

-- the operands of an instruction, if the word is one
unfoldable pub operands_of : List ℕ → Option Operands
operands_of word = operands_from word (first_opcode word false) (first_opcode word true)

-- what an entry of the index says: the first opcode of one kind, and no other
abbrev pub opcode_in : Option Listed → Bool → Option ℕ
opcode_in None signed = None
opcode_in (Some listed) false = if listed.signed then None else Some listed.opcode
opcode_in (Some listed) true = if listed.signed then Some listed.opcode else None

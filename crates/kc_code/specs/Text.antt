-- The text of an instruction, as a disassembly prints it (this kit's own; the order of the operands is the assembler's:
-- MCS-96 Macro Assembler User's Guide, "Operands").
use Rattle.std.specs.Prelude.{◌≡◌, ℕ, Bool, true, ◌<◌, ◌+◌, ◌/◌, ◌%◌, nat_lt, if◌then◌else◌, Some, None, List, [], ◌∷◌, ◌++◌, slice_index_or}
use Rattle.std.specs.Int.{w16, cast_unsigned}
use Rattle.kc_base.specs.Digits.{hex_digit}
use Rattle.kc_isa.specs.declared.table.Shape.{Shape}
use Rattle.kc_isa.specs.declared.table.Shape.TheVariants.{Nothing, One, Two, Four, FourOne, FourTwo, Exchange, CountOne, Near, Conditional, BitTest, Loop, TableJump, Far, Key}
use Rattle.kc_isa.specs.declared.table.Group.{Group}
use Rattle.kc_isa.specs.declared.table.Group.TheVariants.{Jump}
use Rattle.kc_isa.specs.declared.insn.Operand.{Operand}
use Rattle.kc_isa.specs.declared.insn.Operand.TheVariants.{Absent, Reg, Imm, Indirect, Increment, Short, Long, Count, Disp}
use Rattle.kc_isa.specs.declared.insn.Insn.{Insn}
use Rattle.kc_isa.specs.Names.{Shown, row_at}
use Rattle.kc_isa.specs.Formed.{is_byte, length_of}

-- a digit 0 stands before a number that begins with a letter
abbrev pub zero_before : ℕ → List ℕ
zero_before n = if nat_lt n 10 then [] else 0x30 ∷ []

-- two hexadecimal digits and H
unfoldable pub byte_text : ℕ → List ℕ
byte_text n = zero_before (n / 0x10) ++ (hex_digit (n / 0x10) ∷ hex_digit (n % 0x10) ∷ 0x48 ∷ [])

-- four hexadecimal digits and H
unfoldable pub word_text : ℕ → List ℕ
word_text n = zero_before (n / 0x1000) ++ (hex_digit (n / 0x1000) ∷ hex_digit (n / 0x100 % 0x10) ∷ hex_digit (n / 0x10 % 0x10) ∷ hex_digit (n % 0x10) ∷ 0x48 ∷ [])

-- #n
abbrev pub number_text : Bool → ℕ → List ℕ
number_text byte n = 0x23 ∷ (if byte then byte_text n else word_text n)

-- [r]
abbrev pub pointer_text : ℕ → List ℕ
pointer_text r = 0x5B ∷ (byte_text r ++ (0x5D ∷ []))

-- a count below 10H is a number, a higher one a register
abbrev pub count_text : ℕ → List ℕ
count_text n = if nat_lt n 0x10 then number_text true n else byte_text n

-- the operand S, and where a distance leads from the address of the next instruction
unfoldable pub operand_text : Bool → ℕ → Operand → List ℕ
operand_text byte next Absent = []
operand_text byte next (Reg r) = byte_text r
operand_text byte next (Imm n) = number_text byte n
operand_text byte next (Indirect r) = pointer_text r
operand_text byte next (Increment r) = pointer_text r ++ (0x2B ∷ [])
operand_text byte next (Short base offset) = word_text (cast_unsigned w16 offset) ++ pointer_text base
operand_text byte next (Long base offset) = word_text offset ++ pointer_text base
operand_text byte next (Count n) = count_text n
operand_text byte next (Disp d) = word_text ((next + cast_unsigned w16 d) % 0x10000)

-- a number that is printed as a byte is one
abbrev pub FitsNumber : Bool → Operand → Type 0
FitsNumber byte (Imm n) = byte ≡ true → n < 256
FitsNumber byte o = Unit {0}

-- the key of IDLPD is a byte
abbrev pub is_byte_number : Shape → Bool → Bool
is_byte_number Key byte = true
is_byte_number _ byte = byte

-- the one register of a row: BR jumps to the address in it
abbrev pub single_text : Group → ℕ → List ℕ
single_text Jump r = pointer_text r
single_text _ r = byte_text r

infixr 10 ◌comma◌
abbrev pub ◌comma◌ : List ℕ → List ℕ → List ℕ
a comma b = a ++ (0x2C ∷ b)

-- the operands of a shape: its registers, and the text of S, a count, a distance or a key; behind a blank
abbrev pub listed : Shape → Group → ℕ → (ℕ → ℕ) → List ℕ → List ℕ
listed Nothing group opcode r s = []
listed One group opcode r s = 0x20 ∷ single_text group (r 0)
listed Two group opcode r s = 0x20 ∷ (byte_text (r 1) comma byte_text (r 0))
listed Four group opcode r s = 0x20 ∷ s
listed FourOne group opcode r s = 0x20 ∷ (byte_text (r 0) comma s)
listed FourTwo group opcode r s = 0x20 ∷ (byte_text (r 1) comma (byte_text (r 0) comma s))
listed Exchange group opcode r s = 0x20 ∷ (byte_text (r 0) comma s)
listed CountOne group opcode r s = 0x20 ∷ (byte_text (r 0) comma s)
listed Near group opcode r s = 0x20 ∷ s
listed Conditional group opcode r s = 0x20 ∷ s
listed BitTest group opcode r s = 0x20 ∷ (byte_text (r 0) comma ((0x30 + opcode % 8) ∷ [] comma s))
listed Loop group opcode r s = 0x20 ∷ (byte_text (r 0) comma s)
listed TableJump group opcode r s = 0x20 ∷ (byte_text (r 2) comma (pointer_text (r 0) comma number_text true (r 1)))
listed Far group opcode r s = 0x20 ∷ s
listed Key group opcode r s = 0x20 ∷ s

-- what stands before S, a count or a distance
abbrev pub before_operand : Shape → ℕ → (ℕ → ℕ) → List ℕ
before_operand FourTwo opcode r = 0x20 ∷ (byte_text (r 1) comma (byte_text (r 0) comma []))
before_operand FourOne opcode r = 0x20 ∷ (byte_text (r 0) comma [])
before_operand Exchange opcode r = 0x20 ∷ (byte_text (r 0) comma [])
before_operand CountOne opcode r = 0x20 ∷ (byte_text (r 0) comma [])
before_operand Loop opcode r = 0x20 ∷ (byte_text (r 0) comma [])
before_operand BitTest opcode r = 0x20 ∷ (byte_text (r 0) comma ((0x30 + opcode % 8) ∷ 0x2C ∷ []))
before_operand _ opcode r = 0x20 ∷ []

abbrev pub register : List ℕ → ℕ → ℕ
register regs n = slice_index_or regs n 0

abbrev pub row_text : Insn → ℕ → Shown → List ℕ
row_text i at row =
    row.name ++ listed row.shape row.group i.opcode (register i.regs) (operand_text (is_byte_number row.shape (is_byte row.width)) ((at + length_of i) % 0x10000) i.operand)

-- the text of a well-formed instruction that stands at an address
abbrev pub text_of : Insn → ℕ → List ℕ
text_of i at = elim (row_at i.opcode i.signed) [ None ↦ [] | Some row ↦ row_text i at row ]

-- Which special function register answers an access, by window. The tables are the constants WINDOW0, WINDOW1, WINDOW15 and
-- EVERYWHERE (80C196KC User's Manual, "Special Function Registers"; which registers appear in which window is this kit's own).
use Rattle.std.specs.Prelude.{ℕ, ◌-◌, ◌%◌, ◌==◌, Bool, is_some, Option, Some, None, List, [], ◌∷◌, ◌++◌, find, filter_map, if◌then◌else◌}
use Rattle.std.specs.Option.{option_map}
use Rattle.kc_exec_spec.specs.declared.access.Master.{Master}
use Rattle.kc_exec_spec.specs.declared.access.Master.TheVariants.{Cpu, Server}
use Rattle.kc_block_spec.specs.declared.registers.Window.{Window}
use Rattle.kc_block_spec.specs.declared.registers.Window.TheVariants.{Window0, Window1, Window15}
use Rattle.kc_block_spec.specs.declared.registers.ReadableByte.{ReadableByte}
use Rattle.kc_block_spec.specs.declared.registers.WritableByte.{WritableByte}
use Rattle.kc_block_spec.specs.declared.registers.ReadableWord.{ReadableWord}
use Rattle.kc_block_spec.specs.declared.registers.WritableWord.{WritableWord}
use Rattle.kc_block_spec.specs.declared.table.Register.{Register}
use Rattle.kc_block_spec.specs.declared.table.Uses.{Uses}
use Rattle.kc_block_spec.specs.declared.table.Uses.TheVariants.{Byte, Word}
use Rattle.kc_block_spec.specs.declared.table.TheConstants.{EVERYWHERE, WINDOW0, WINDOW1, WINDOW15}

-- the horizontal window that a master sees: the transfer server always window 0, and so the processor under a vertical one
abbrev pub window_seen : Master → ℕ → Window
window_seen Server wsr = Window0
window_seen Cpu wsr = if wsr == 1 then Window1 else if wsr == 15 then Window15 else Window0

-- the number of a window, as further units are given it
abbrev pub window_number : Window → ℕ
window_number Window0 = 0
window_number Window1 = 1
window_number Window15 = 15

-- the registers that a window has besides those of every window, and all that it has
abbrev pub own_registers : Window → List Register
own_registers Window0 = WINDOW0
own_registers Window1 = WINDOW1
own_registers Window15 = WINDOW15

unfoldable pub registers : Window → List Register
registers w = own_registers w ++ EVERYWHERE

-- what stands at an address of a table
unfoldable pub uses_in : List Register → ℕ → Option Uses
uses_in table addr = option_map (λ r. r.uses) (find (λ r. addr == r.address) table)

unfoldable pub uses_at : Window → ℕ → Option Uses
uses_at w addr = uses_in (registers w) addr

-- for reading and for writing, as a byte and as a word
abbrev pub byte_read_by : Uses → Option ReadableByte
byte_read_by (Byte read written) = read
byte_read_by (Word read written) = None

abbrev pub byte_written_by : Uses → Option WritableByte
byte_written_by (Byte read written) = written
byte_written_by (Word read written) = None

abbrev pub word_read_by : Uses → Option ReadableWord
word_read_by (Byte read written) = None
word_read_by (Word read written) = read

abbrev pub word_written_by : Uses → Option WritableWord
word_written_by (Byte read written) = None
word_written_by (Word read written) = written

-- the registers of a table that have one of these, with their addresses
abbrev pub that_have : {R : Type 0} → (Uses → Option R) → List Register → List (ℕ × R)
that_have part table = filter_map (λ r. option_map (λ used. (r.address, used)) (part r.uses)) table

unfoldable pub bytes_read : Window → List (ℕ × ReadableByte)
bytes_read w = that_have byte_read_by (registers w)

unfoldable pub bytes_written : Window → List (ℕ × WritableByte)
bytes_written w = that_have byte_written_by (registers w)

unfoldable pub words_read : Window → List (ℕ × ReadableWord)
words_read w = that_have word_read_by (registers w)

unfoldable pub words_written : Window → List (ℕ × WritableWord)
words_written w = that_have word_written_by (registers w)

-- and those of every window
unfoldable pub bytes_read_everywhere : List (ℕ × ReadableByte)
bytes_read_everywhere = that_have byte_read_by EVERYWHERE

unfoldable pub bytes_written_everywhere : List (ℕ × WritableByte)
bytes_written_everywhere = that_have byte_written_by EVERYWHERE

-- the register at an address
abbrev pub row_at : {R : Type 0} → List (ℕ × R) → ℕ → Option R
row_at [] addr = None
row_at (row ∷ rows) addr = if addr == row.0 then Some row.1 else row_at rows addr

-- a byte of a word register
abbrev pub is_half : {R : Type 0} → List (ℕ × R) → ℕ → Bool
is_half words addr = is_some (row_at words (addr - addr % 2))

-- The accesses that instructions are made of: a byte or a word at an address, a register in the window, the stack (80C196KC
-- User's Manual, "Memory Map" and "Windows"; the order inside a long register is this kit's own).
use Rattle.std.specs.Prelude.{ℕ, Bool, true, false, ◌+◌, ◌*◌, ◌/◌, ◌%◌, ◌==◌, if◌then◌else◌, Result, Ok, Err}
use Rattle.kc_base.specs.declared.types.Kind.{Kind}
use Rattle.kc_base.specs.declared.types.Kind.TheVariants.{LongAlign}
use Rattle.kc_exec_spec.specs.declared.access.Master.TheVariants.{Cpu}
use Rattle.kc_exec_spec.specs.declared.plan.Size.{Size}
use Rattle.kc_exec_spec.specs.declared.plan.Size.TheVariants.{Byte, Word, Long}
use Rattle.kc_exec_spec.specs.Access.{ReadByte, ReadWord, WriteByte, WriteWord}
use Rattle.kc_exec_spec.specs.Effect.{Effect, End, Undefined, Ask, ◌>>=◌}
use Rattle.kc_exec_spec.specs.Window.{window_of}

abbrev pub or_undefined : {A : Type 0} → Result A Kind → Effect A
or_undefined (Ok a) = End a
or_undefined (Err k) = Undefined k

-- the numbers of a byte, or of a word
abbrev pub limit : Bool → ℕ
limit byte = if byte then 0x100 else 0x10000

-- the numbers of twice the width
abbrev pub double_limit : Bool → ℕ
double_limit byte = if byte then 0x10000 else 0x100000000

unfoldable pub read_at : Bool → ℕ → Effect ℕ
read_at byte addr = if byte then Ask (ReadByte Cpu addr) End else Ask (ReadWord Cpu addr) End

unfoldable pub write_at : Bool → ℕ → ℕ → Effect (Unit {0})
write_at byte addr n = if byte then Ask (WriteByte Cpu addr (n % 256)) (λ u. End tt) else Ask (WriteWord Cpu addr n) (λ u. End tt)

-- a register of the instruction, in the window
unfoldable pub read_register : Bool → ℕ → ℕ → Effect ℕ
read_register byte wsr register = or_undefined (window_of wsr register) >>= λ addr. read_at byte addr

unfoldable pub write_register : Bool → ℕ → ℕ → ℕ → Effect (Unit {0})
write_register byte wsr register n = or_undefined (window_of wsr register) >>= λ addr. write_at byte addr n

-- a long register: its alignment is asked first, and its low word comes first
unfoldable pub long_place : ℕ → ℕ → Effect ℕ
long_place wsr register = or_undefined (window_of wsr register) >>= λ addr. if addr % 4 == 0 then End addr else Undefined LongAlign

unfoldable pub read_long : ℕ → ℕ → Effect ℕ
read_long wsr register = do
  addr ← long_place wsr register
  low ← read_at false addr
  high ← read_at false (addr + 2)
  End (low + 0x10000 * high)

unfoldable pub write_long : ℕ → ℕ → ℕ → Effect (Unit {0})
write_long wsr register n = do
  addr ← long_place wsr register
  low ← write_at false addr (n % 0x10000)
  write_at false (addr + 2) (n / 0x10000)

-- the numbers of a width, and how many bits they have
abbrev pub sized_limit : Size → ℕ
sized_limit Byte = 0x100
sized_limit Word = 0x10000
sized_limit Long = 0x100000000

abbrev pub bits : Size → ℕ
bits Byte = 8
bits Word = 16
bits Long = 32

unfoldable pub read_sized : Size → ℕ → ℕ → Effect ℕ
read_sized Byte wsr register = read_register true wsr register
read_sized Word wsr register = read_register false wsr register
read_sized Long wsr register = read_long wsr register

unfoldable pub write_sized : Size → ℕ → ℕ → ℕ → Effect (Unit {0})
write_sized Byte wsr register n = write_register true wsr register n
write_sized Word wsr register n = write_register false wsr register n
write_sized Long wsr register n = write_long wsr register n

-- twice the width of a byte, or of a word
abbrev pub doubled : Bool → Size
doubled byte = if byte then Word else Long

-- the low half of a register of twice the width, whose alignment is asked first where it is long
unfoldable pub read_low_half : Bool → ℕ → ℕ → Effect ℕ
read_low_half byte wsr register = if byte then read_register true wsr register else (long_place wsr register >>= λ addr. read_at false addr)

-- the stack, whose pointer stands at 18H in every window
unfoldable pub push : ℕ → Effect (Unit {0})
push n = do
  sp ← read_at false 0x18
  moved ← write_at false 0x18 ((sp + 0xFFFE) % 0x10000)
  write_at false ((sp + 0xFFFE) % 0x10000) n

unfoldable pub pop : Effect ℕ
pop = do
  sp ← read_at false 0x18
  n ← read_at false sp
  moved ← write_at false 0x18 ((sp + 2) % 0x10000)
  End n

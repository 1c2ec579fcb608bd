-- The operand S: its value, or the place where it stands (80C196KC User's Manual, "Addressing Modes"; the order of accesses is
-- this kit's own).
use Rattle.std.specs.Prelude.{ℕ, Bool, false, ◌+◌, ◌%◌, if◌then◌else◌}
use Rattle.std.specs.Int.{w16, cast_unsigned}
use Rattle.kc_isa.specs.declared.insn.Operand.{Operand}
use Rattle.kc_isa.specs.declared.insn.Operand.TheVariants.{Reg, Imm, Indirect, Increment, Short, Long}
use Rattle.kc_exec_spec.specs.Effect.{Effect, End, ◌>>=◌}
use Rattle.kc_exec_spec.specs.Window.{window_of}
use Rattle.kc_exec_spec.specs.Parts.{or_undefined, limit, read_at, read_register, write_register}

abbrev pub size : Bool → ℕ
size byte = if byte then 1 else 2

abbrev pub at_offset : ℕ → ℕ → ℕ
at_offset base offset = (base + offset) % 0x10000

-- reads S: the pointer or base first, and an incremented pointer is written back after the read
unfoldable pub source : Bool → ℕ → Operand → Effect ℕ
source byte wsr (Reg r) = read_register byte wsr r
source byte wsr (Imm n) = End (n % limit byte)
source byte wsr (Indirect r) = read_register false wsr r >>= λ p. read_at byte p
source byte wsr (Increment r) = do
  p ← read_register false wsr r
  n ← read_at byte p
  written ← write_register false wsr r (at_offset p (size byte))
  End n
source byte wsr (Short base offset) = read_register false wsr base >>= λ p. read_at byte (at_offset p (cast_unsigned w16 offset))
source byte wsr (Long base offset) = read_register false wsr base >>= λ p. read_at byte (at_offset p offset)
source byte wsr _ = End 0

-- the address of S, for what is stored there
unfoldable pub target : Bool → ℕ → Operand → Effect ℕ
target byte wsr (Reg r) = or_undefined (window_of wsr r)
target byte wsr (Indirect r) = read_register false wsr r
target byte wsr (Increment r) = do
  p ← read_register false wsr r
  written ← write_register false wsr r (at_offset p (size byte))
  End p
target byte wsr (Short base offset) = read_register false wsr base >>= λ p. End (at_offset p (cast_unsigned w16 offset))
target byte wsr (Long base offset) = read_register false wsr base >>= λ p. End (at_offset p offset)
target byte wsr _ = End 0

-- What arithmetic, logic and shifts do, access by access; each ends with the new high byte of the PSW (80C196KC User's Manual,
-- "Instruction Set"; the order of accesses is this kit's own).
use Rattle.std.specs.Prelude.{ℕ, Bool, true, false, ◌%◌, ◌^◌, nat_lt, if◌then◌else◌, slice_index}
use Rattle.kc_isa.specs.declared.insn.Insn.{Insn}
use Rattle.kc_isa.specs.declared.insn.Operand.{Operand}
use Rattle.kc_isa.specs.declared.insn.Operand.TheVariants.{Count}
use Rattle.kc_alu.specs.declared.flags.Shift.{Shift}
use Rattle.kc_alu.specs.Width.{half_of}
use Rattle.kc_alu.specs.Arithmetic.{borrow_in, difference_flags, logic_flags}
use Rattle.kc_alu.specs.Products.{long_half, product, spread, divided}
use Rattle.kc_alu.specs.Shifts.{shifted, shifted_flags, normal_shifts, normal_result, normal_flags}
use Rattle.kc_exec_spec.specs.declared.plan.Operation.{Operation}
use Rattle.kc_exec_spec.specs.declared.plan.Alteration.{Alteration}
use Rattle.kc_exec_spec.specs.declared.plan.Size.{Size}
use Rattle.kc_exec_spec.specs.declared.plan.Computation.{Computation}
use Rattle.kc_exec_spec.specs.declared.plan.Computation.TheVariants.{Operate, Alter, Extend, Shift as ShiftBits, Normalize, Multiply, Divide, CompareLong}
use Rattle.kc_exec_spec.specs.Effect.{Effect, End, ◌>>=◌}
use Rattle.kc_exec_spec.specs.Status.{flags_of, with_flags}
use Rattle.kc_exec_spec.specs.Parts.{or_undefined, read_register, write_register, read_long, write_long, bits, read_sized, write_sized, doubled, read_low_half}
use Rattle.kc_exec_spec.specs.Operands.{source}
use Rattle.kc_exec_spec.specs.Operations.{width, computed, computed_flags, writes_result, altered, altered_flags, reads_register}

-- a byte after the opcode and S
abbrev pub register : Insn → ℕ → ℕ
register i k = slice_index i.regs k

-- the rows with A and D stand below 60H; D is the register after A
abbrev pub has_a : Insn → Bool
has_a i = nat_lt i.opcode 0x60

abbrev pub destination : Insn → ℕ
destination i = if has_a i then register i 1 else register i 0

-- S, then A (or D), then the result to D
unfoldable pub operate : Operation → Bool → ℕ → Insn → ℕ → Effect ℕ
operate op byte wsr i psw = do
  s ← source byte wsr i.operand
  n ← read_register byte wsr (register i 0)
  written ← (if writes_result op then write_register byte wsr (destination i) (computed op (half_of (width byte)) n s (flags_of psw)) else End tt)
  End (with_flags psw (computed_flags op (half_of (width byte)) n s (flags_of psw)))

unfoldable pub read_altered : Alteration → Bool → ℕ → ℕ → Effect ℕ
read_altered how byte wsr d = if reads_register how then read_register byte wsr d else End 0

unfoldable pub alter : Alteration → Bool → ℕ → ℕ → ℕ → Effect ℕ
alter how byte wsr d psw = do
  n ← read_altered how byte wsr d
  written ← write_register byte wsr d (altered how (half_of (width byte)) n (flags_of psw))
  End (with_flags psw (altered_flags how (half_of (width byte)) n (flags_of psw)))

-- the sign of the low half over the whole of D
unfoldable pub extend : Bool → ℕ → ℕ → ℕ → Effect ℕ
extend byte wsr d psw = do
  n ← read_low_half byte wsr d
  written ← write_sized (doubled byte) wsr d (spread (half_of (width byte)) n)
  End (with_flags psw (logic_flags (long_half (half_of (width byte))) (spread (half_of (width byte)) n) (flags_of psw)))

-- a count below 16 is meant itself, a greater one names a register with the count in its low five bits
unfoldable pub shift_count : ℕ → Operand → Effect ℕ
shift_count wsr (Count n) = if nat_lt n 0x10 then End n else (read_register true wsr n >>= λ k. End (k % 32))
shift_count wsr _ = End 0

-- the count, then D
unfoldable pub shift : Shift → Size → ℕ → Insn → ℕ → Effect ℕ
shift how size wsr i psw = do
  count ← shift_count wsr i.operand
  n ← read_sized size wsr (register i 0)
  written ← write_sized size wsr (register i 0) (shifted how (half_of (bits size)) n (2 ^ count))
  End (with_flags psw (shifted_flags how (half_of (bits size)) n (2 ^ count) (flags_of psw)))

-- D is written before the register for the count
unfoldable pub normalize : ℕ → Insn → ℕ → Effect ℕ
normalize wsr i psw = do
  n ← read_long wsr (register i 1)
  written ← write_long wsr (register i 1) (normal_result n)
  counted ← write_register true wsr (register i 0) (normal_shifts n)
  End (with_flags psw (normal_flags n (flags_of psw)))

-- the factor beside S: A, or the low half of D
unfoldable pub factor : Bool → ℕ → Insn → Effect ℕ
factor byte wsr i = if has_a i then read_register byte wsr (register i 0) else read_low_half byte wsr (register i 0)

unfoldable pub multiply : Bool → Bool → ℕ → Insn → Effect (Unit {0})
multiply with_sign byte wsr i = do
  s ← source byte wsr i.operand
  n ← factor byte wsr i
  write_sized (doubled byte) wsr (destination i) (product (half_of (width byte)) with_sign n s)

-- D of twice the width by S
unfoldable pub divide : Bool → Bool → ℕ → Insn → ℕ → Effect ℕ
divide with_sign byte wsr i psw = do
  s ← source byte wsr i.operand
  n ← read_sized (doubled byte) wsr (register i 0)
  r ← or_undefined (divided (half_of (width byte)) with_sign n s (flags_of psw))
  written ← write_sized (doubled byte) wsr (register i 0) r.0
  End (with_flags psw r.1)

-- S, then D; nothing is written
unfoldable pub compare_long : ℕ → Insn → ℕ → Effect ℕ
compare_long wsr i psw = do
  s ← read_long wsr (register i 0)
  n ← read_long wsr (register i 1)
  End (with_flags psw (difference_flags (half_of 32) n s (borrow_in false (flags_of psw)) false (flags_of psw)))

unfoldable pub compute : Computation → ℕ → Insn → ℕ → Effect ℕ
compute (Operate op byte) wsr i psw = operate op byte wsr i psw
compute (Alter how byte) wsr i psw = alter how byte wsr (register i 0) psw
compute (Extend byte) wsr i psw = extend byte wsr (register i 0) psw
compute (ShiftBits how size) wsr i psw = shift how size wsr i psw
compute Normalize wsr i psw = normalize wsr i psw
compute (Multiply with_sign byte) wsr i psw = multiply with_sign byte wsr i >>= λ u. End psw
compute (Divide with_sign byte) wsr i psw = divide with_sign byte wsr i psw
compute CompareLong wsr i psw = compare_long wsr i psw

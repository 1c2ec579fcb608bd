-- A bus that keeps a byte for each address, those below 0018H without meaning, and beside them registers of its own, which answer
-- there.
use Rattle.std.specs.Prelude.{ℕ, ◌+◌, ◌*◌, ◌/◌, ◌%◌, nat_lt, if◌then◌else◌, Result, List, slice_index, slice_set}
use Rattle.kc_base.specs.declared.types.Kind.{Kind}
use Rattle.kc_exec_spec.specs.declared.access.Access.{Access}
use Rattle.kc_exec_spec.specs.declared.access.Access.TheVariants.{ReadByte, ReadWord, WriteByte, WriteWord, SetMasks}
use Rattle.kc_exec_spec.specs.Effect.{Meaning}
use Rattle.kc_exec_spec.specs.Memory.{if_even, reads, writes}

pub record Beside (R : Type 0) : Type 0 where
  pub bytes : List ℕ
  pub registers : R

abbrev pub put : {R : Type 0} → Beside R → ℕ → ℕ → Beside R
put h addr n = record { bytes = slice_set h.bytes addr n; registers = h.registers }

abbrev pub with_registers : {R : Type 0} → Beside R → R → Beside R
with_registers h r = record { bytes = h.bytes; registers = r }

abbrev pub answer_beside : {R : Type 0} → Meaning R → Beside R → Access → Result ℕ Kind
answer_beside own h (ReadByte by addr) = if nat_lt addr 24 then own.answer h.registers (ReadByte by addr) else reads addr (slice_index h.bytes addr)
answer_beside own h (ReadWord by addr) = if_even addr (if nat_lt addr 24 then own.answer h.registers (ReadWord by addr) else reads addr (slice_index h.bytes addr + 256 * slice_index h.bytes (addr + 1)))
answer_beside own h (WriteByte by addr n) = if nat_lt addr 24 then own.answer h.registers (WriteByte by addr n) else writes addr
answer_beside own h (WriteWord by addr n) = if_even addr (if nat_lt addr 24 then own.answer h.registers (WriteWord by addr n) else writes addr)
answer_beside own h (SetMasks m) = own.answer h.registers (SetMasks m)

-- reads have no effect
abbrev pub after_beside : {R : Type 0} → Meaning R → Beside R → Access → Beside R
after_beside own h (ReadByte by addr) = h
after_beside own h (ReadWord by addr) = h
after_beside own h (WriteByte by addr n) = if nat_lt addr 24 then with_registers h (own.after h.registers (WriteByte by addr n)) else put h addr n
after_beside own h (WriteWord by addr n) = if nat_lt addr 24 then with_registers h (own.after h.registers (WriteWord by addr n)) else put (put h addr (n % 256)) (addr + 1) (n / 256)
after_beside own h (SetMasks m) = with_registers h (own.after h.registers (SetMasks m))

abbrev pub beside : {R : Type 0} → Meaning R → Meaning (Beside R)
beside own = record { answer = answer_beside own; after = after_beside own; refused = λ h r. h; masks = λ h. own.masks h.registers }

-- What loads, stores, exchanges, PUSH and POP do, access by access (80C196KC User's Manual, "Instruction Set"; the order of
-- accesses is this kit's own).
use Rattle.std.specs.Prelude.{ℕ, Bool, true, false, ◌+◌, nat_lt, if◌then◌else◌}
use Rattle.kc_isa.specs.declared.insn.Insn.{Insn}
use Rattle.kc_exec_spec.specs.declared.plan.Movement.{Movement}
use Rattle.kc_exec_spec.specs.declared.plan.Movement.TheVariants.{Load, ZeroExtend, SignExtend, Store, Exchange, Push, Pop}
use Rattle.kc_exec_spec.specs.Effect.{Effect, ◌>>=◌}
use Rattle.kc_exec_spec.specs.Parts.{read_at, write_at, read_register, write_register, push, pop}
use Rattle.kc_exec_spec.specs.Operands.{source, target}
use Rattle.kc_exec_spec.specs.Computing.{register}

unfoldable pub load : Bool → ℕ → Insn → Effect (Unit {0})
load byte wsr i = source byte wsr i.operand >>= λ s. write_register byte wsr (register i 0) s

abbrev pub sign_extended : ℕ → ℕ
sign_extended n = if nat_lt n 0x80 then n else n + 0xFF00

unfoldable pub load_extended : Bool → ℕ → Insn → Effect (Unit {0})
load_extended with_sign wsr i = source true wsr i.operand >>= λ s. write_register false wsr (register i 0) (if with_sign then sign_extended s else s)

-- the register first, then S as a place
unfoldable pub store : Bool → ℕ → Insn → Effect (Unit {0})
store byte wsr i = do
  n ← read_register byte wsr (register i 0)
  addr ← target byte wsr i.operand
  write_at byte addr n

-- S, then D; D is written before S
unfoldable pub exchange : Bool → ℕ → Insn → Effect (Unit {0})
exchange byte wsr i = do
  addr ← target byte wsr i.operand
  s ← read_at byte addr
  n ← read_register byte wsr (register i 0)
  first ← write_register byte wsr (register i 0) s
  write_at byte addr n

-- the stack pointer is read again after S and its pointer
unfoldable pub push_source : ℕ → Insn → Effect (Unit {0})
push_source wsr i = source false wsr i.operand >>= λ s. push s

-- the stack pointer is written before the pointer of S is read
unfoldable pub pop_target : ℕ → Insn → Effect (Unit {0})
pop_target wsr i = do
  n ← pop
  addr ← target false wsr i.operand
  write_at false addr n

unfoldable pub move_data : Movement → ℕ → Insn → Effect (Unit {0})
move_data (Load byte) wsr i = load byte wsr i
move_data ZeroExtend wsr i = load_extended false wsr i
move_data SignExtend wsr i = load_extended true wsr i
move_data (Store byte) wsr i = store byte wsr i
move_data (Exchange byte) wsr i = exchange byte wsr i
move_data Push wsr i = push_source wsr i
move_data Pop wsr i = pop_target wsr i

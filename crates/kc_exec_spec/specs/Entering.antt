-- Entries through a vector (80C196KC User's Manual, "Interrupts"; the order of accesses and the states are this kit's own).
use Rattle.std.specs.Prelude.{◌≡◌, ℕ, ◌+◌, ◌-◌, ◌*◌, ◌%◌, ◌==◌, nat_lt, false, if◌then◌else◌, Result, Ok, Err}
use Rattle.kc_base.specs.Limits.{register_file_end}
use Rattle.kc_base.specs.declared.types.Kind.{Kind}
use Rattle.kc_exec_spec.specs.declared.cpu.Cpu.{Cpu}
use Rattle.kc_exec_spec.specs.Effect.{Effect, End, ◌>>=◌, Outcome, Done, Refused}
use Rattle.kc_exec_spec.specs.Parts.{read_at, push}

-- where the vector of a number stands: 16 is TRAP's, 17 that of an opcode that no instruction has
abbrev pub vector_at : ℕ → ℕ
vector_at number =
    if nat_lt number 8 then 0x2000 + 2 * number
    else if nat_lt number 16 then 0x2030 + 2 * (number - 8)
    else if number == 16 then 0x2010
    else 0x2012

-- an interrupt: the new program counter is read, and then the return address is pushed
unfoldable pub entry : ℕ → ℕ → Effect ℕ
entry vector back = do
  pc ← read_at false vector
  pushed ← push back
  End pc

-- a trap: the return address is pushed, and then the new program counter is read
unfoldable pub trap : ℕ → ℕ → Effect ℕ
trap vector back = do
  pushed ← push back
  read_at false vector

-- an opcode that no instruction has, at pc: a trap that returns to the byte after it
abbrev pub opcode_trap : ℕ → Effect ℕ
opcode_trap pc = trap 0x2012 ((pc + 1) % 0x10000)

-- the states of an entry, and of the trap of such an opcode: two more where the stack stands outside the register file
abbrev pub entry_states : ℕ → ℕ
entry_states sp = if nat_lt ((sp + 0xFFFE) % 0x10000) register_file_end then 12 else 14

-- a call loaded the program counter so, where the outcome is described; a refusal leaves the registers as they were
abbrev pub Loads : {H : Type 0} → Result (Unit {0}) Kind → Cpu → Cpu → H → Outcome ℕ H → Type 0
Loads (Ok u) old new h outcome = (outcome ≡ Done new.pc h) × (new.psw_high ≡ old.psw_high)
Loads (Err k) old new h outcome = (outcome ≡ Refused k h) × (new ≡ old)

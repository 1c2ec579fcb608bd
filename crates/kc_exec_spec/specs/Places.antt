-- What the count of states reads at the start of an instruction: where S and the stack are, how many shifts there will be,
-- whether a jump is taken (this kit's own).
use Rattle.std.specs.Prelude.{ℕ, Bool, true, false, ◌+◌, ◌*◌, ◌%◌, ◌==◌, nat_lt, nat_le, ◌&&◌, ◌||◌, if◌then◌else◌, Some, None, Result, Ok, Err}
use Rattle.std.specs.Int.{w16, cast_unsigned}
use Rattle.kc_base.specs.Limits.{register_file_end}
use Rattle.kc_base.specs.declared.types.Kind.{Kind}
use Rattle.kc_base.specs.declared.types.Kind.TheVariants.{NoRegister}
use Rattle.kc_isa.specs.declared.insn.Insn.{Insn}
use Rattle.kc_isa.specs.declared.insn.Place.{Place}
use Rattle.kc_isa.specs.declared.insn.Operand.{Operand}
use Rattle.kc_isa.specs.declared.insn.Operand.TheVariants.{Indirect, Increment, Short, Long, Count}
use Rattle.kc_isa.specs.Names.{mnemonic_at}
use Rattle.kc_alu.specs.Shifts.{normal_shifts}
use Rattle.kc_exec_spec.specs.declared.access.Masks.{Masks}
use Rattle.kc_exec_spec.specs.declared.cpu.Cpu.{Cpu}
use Rattle.kc_exec_spec.specs.declared.plan.Plan.{Plan}
use Rattle.kc_exec_spec.specs.declared.plan.Plan.TheVariants.{Compute, Move, Jump, Save, Trap}
use Rattle.kc_exec_spec.specs.declared.plan.Computation.TheVariants.{Normalize}
use Rattle.kc_exec_spec.specs.declared.plan.Movement.TheVariants.{Push, Pop}
use Rattle.kc_exec_spec.specs.declared.plan.Route.TheVariants.{Call, Return, When}
use Rattle.kc_exec_spec.specs.declared.plan.Saving.TheVariants.{PushStatus, PopStatus, PushAll, PopAll}
use Rattle.kc_exec_spec.specs.Window.{window_of}
use Rattle.kc_exec_spec.specs.Plans.{plan_of}
use Rattle.kc_exec_spec.specs.Operands.{at_offset}
use Rattle.kc_exec_spec.specs.Computing.{register}
use Rattle.kc_exec_spec.specs.Jumping.{is_taken}

infixl 10 ◌>>=◌
abbrev pub ◌>>=◌ : {A B : Type 0} → Result A Kind → (A → Result B Kind) → Result B Kind
(Ok a) >>= f = f a
(Err k) >>= f = Err k

-- a word of memory, and two of them
abbrev pub word_seen : (ℕ → ℕ) → ℕ → ℕ
word_seen byte addr = byte addr + 256 * byte (addr + 1)

abbrev pub long_seen : (ℕ → ℕ) → ℕ → ℕ
long_seen byte addr = word_seen byte addr + 0x10000 * word_seen byte (addr + 2)

-- a register below 0018H is not looked at; 00H and 01H read 0
abbrev pub or_register : ℕ → ℕ → Result ℕ Kind
or_register addr n = if nat_lt addr 2 then Ok 0 else if nat_lt addr 24 then Err NoRegister else Ok n

abbrev pub is_outside : ℕ → Bool
is_outside addr = nat_le register_file_end addr

-- whether the address in a register and an offset is outside the register file; POP counts with SP as it will be
unfoldable pub is_outside_at : Bool → ℕ → (ℕ → ℕ) → ℕ → ℕ → Result Bool Kind
is_outside_at pops wsr byte r offset =
    window_of wsr r >>= λ addr.
    or_register addr (word_seen byte addr) >>= λ p.
    Ok (is_outside (at_offset p (offset + (if pops && addr == 24 then 2 else 0))))

unfoldable pub operand_outside : Bool → ℕ → (ℕ → ℕ) → Operand → Result Bool Kind
operand_outside pops wsr byte (Indirect r) = is_outside_at pops wsr byte r 0
operand_outside pops wsr byte (Increment r) = is_outside_at pops wsr byte r 0
operand_outside pops wsr byte (Short base offset) = is_outside_at pops wsr byte base (cast_unsigned w16 offset)
operand_outside pops wsr byte (Long base offset) = is_outside_at pops wsr byte base offset
operand_outside pops wsr byte _ = Ok false

-- what pushes, and what pops
abbrev pub is_push : Plan → Bool
is_push (Move Push) = true
is_push (Jump Call) = true
is_push (Save PushStatus) = true
is_push (Save PushAll) = true
is_push Trap = true
is_push _ = false

abbrev pub is_pop : Plan → Bool
is_pop (Move Pop) = true
is_pop (Jump Return) = true
is_pop (Save PopStatus) = true
is_pop (Save PopAll) = true
is_pop _ = false

abbrev pub is_pop_target : Plan → Bool
is_pop_target (Move Pop) = true
is_pop_target _ = false

abbrev pub stack_outside : Plan → ℕ → Bool
stack_outside plan sp = (is_push plan && is_outside ((sp + 0xFFFE) % 0x10000)) || (is_pop plan && is_outside sp)

-- the count of a shift, in its register or by number
unfoldable pub count_seen : ℕ → (ℕ → ℕ) → Operand → Result ℕ Kind
count_seen wsr byte (Count n) =
    if nat_lt n 0x10 then Ok n
    else window_of wsr n >>= λ addr. or_register addr (byte addr) >>= λ k. Ok (k % 32)
count_seen wsr byte _ = Ok 0

-- the shifts of NORML; none is counted where its long register is not at a multiple of 4
unfoldable pub normal_seen : ℕ → (ℕ → ℕ) → ℕ → Result ℕ Kind
normal_seen wsr byte r =
    window_of wsr r >>= λ addr.
    if nat_lt addr 24 then Err NoRegister
    else Ok (if addr % 4 == 0 then normal_shifts (long_seen byte addr) else 0)

abbrev pub shifts_seen : Plan → Insn → ℕ → (ℕ → ℕ) → Result ℕ Kind
shifts_seen (Compute Normalize) i wsr byte = normal_seen wsr byte (register i 1)
shifts_seen _ i wsr byte = count_seen wsr byte i.operand

abbrev pub jump_taken : Plan → ℕ → Bool
jump_taken (Jump (When test wanted)) psw = is_taken test wanted psw
jump_taken _ psw = false

unfoldable pub planned_place : Plan → Insn → ℕ → ℕ → (ℕ → ℕ) → Result Place Kind
planned_place plan i psw wsr byte =
    operand_outside (is_pop_target plan) wsr byte i.operand >>= λ operand.
    shifts_seen plan i wsr byte >>= λ shifts.
    Ok (record { operand_memory = operand; stack_memory = stack_outside plan (word_seen byte 0x18); shifts = shifts; taken = jump_taken plan psw })

-- The place of an instruction, where byte reads the memory; refused where a register that is needed stands below 0018H.
unfoldable pub place_of : Insn → Cpu → Masks → (ℕ → ℕ) → Result Place Kind
place_of i cpu masks byte = elim (mnemonic_at i.opcode i.signed) [ None ↦ Ok (record { operand_memory = false; stack_memory = false; shifts = 0; taken = false }) | Some mnemonic ↦ planned_place (plan_of mnemonic) i cpu.psw_high masks.wsr byte ]

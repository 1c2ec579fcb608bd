-- What is known of an instruction once, before it is performed many times (this kit's own).
use Rattle.std.specs.Prelude.{◌≡◌, ℕ, Bool, true, false, not, ◌+◌, ◌%◌, ◌<◌, nat_lt, ◌==◌, ◌&&◌, ◌||◌, if◌then◌else◌, Some, Result, Ok, Err, IsTrue}
use Rattle.kc_base.specs.declared.types.Kind.{Kind}
use Rattle.kc_isa.specs.declared.insn.Insn.{Insn}
use Rattle.kc_isa.specs.declared.insn.Operand.{Operand}
use Rattle.kc_isa.specs.declared.insn.Operand.TheVariants.{Indirect, Increment, Short, Long, Count}
use Rattle.kc_isa.specs.declared.insn.Place.{Place}
use Rattle.kc_isa.specs.declared.table.Mnemonic.{Mnemonic}
use Rattle.kc_isa.specs.Names.{mnemonic_at}
use Rattle.kc_isa.specs.Formed.{is_formed, length_of, states_of}
use Rattle.kc_exec_spec.specs.declared.cpu.Cpu.{Cpu}
use Rattle.kc_exec_spec.specs.declared.cpu.After.{After}
use Rattle.kc_exec_spec.specs.declared.cpu.After.TheVariants.{Next, Held}
use Rattle.kc_exec_spec.specs.declared.plan.Plan.{Plan}
use Rattle.kc_exec_spec.specs.declared.plan.Plan.TheVariants.{Compute, Move, Jump, Save, Set}
use Rattle.kc_exec_spec.specs.declared.plan.Computation.TheVariants.{Normalize}
use Rattle.kc_exec_spec.specs.declared.plan.Route.TheVariants.{When}
use Rattle.kc_exec_spec.specs.declared.plan.Setting.{Setting}
use Rattle.kc_exec_spec.specs.declared.plan.Setting.TheVariants.{Interrupts, Transfers}
use Rattle.kc_exec_spec.specs.declared.plan.Test.{Test}
use Rattle.kc_exec_spec.specs.declared.plan.Test.TheVariants.{Sticky}
use Rattle.kc_exec_spec.specs.declared.access.Masks.{Masks}
use Rattle.kc_exec_spec.specs.Effect.{Outcome, Done, Refused}
use Rattle.kc_exec_spec.specs.Plans.{plan_of}
use Rattle.kc_exec_spec.specs.Places.{is_outside, word_seen, operand_outside, is_push, is_pop, jump_taken, place_of, ◌>>=◌}
use Rattle.kc_exec_predecode.specs.declared.cost.Cost.{Cost}
use Rattle.kc_exec_predecode.specs.declared.cost.Cost.TheVariants as cost
use Rattle.kc_exec_predecode.specs.declared.predecoded.Predecoded.{Predecoded}

-- S stands where a pointer or a base leads
abbrev pub is_pointing : Operand → Bool
is_pointing (Indirect r) = true
is_pointing (Increment r) = true
is_pointing (Short base offset) = true
is_pointing (Long base offset) = true
is_pointing _ = false

-- the count of a shift stands in a register
abbrev pub is_counting : Operand → Bool
is_counting (Count n) = not (nat_lt n 0x10)
is_counting _ = false

-- the count that the instruction itself has
abbrev pub known_count : Operand → ℕ
known_count (Count n) = if nat_lt n 0x10 then n else 0
known_count _ = 0

abbrev pub is_normalize : Plan → Bool
is_normalize (Compute Normalize) = true
is_normalize _ = false

abbrev pub is_conditional : Plan → Bool
is_conditional (Jump (When test wanted)) = true
is_conditional _ = false

abbrev pub is_free_setting : Setting → Bool
is_free_setting (Interrupts set) = false
is_free_setting (Transfers set) = false
is_free_setting _ = true

-- the program goes on: any activity may follow, or, after what saves or restores the PSW, an instruction
abbrev pub is_free : Plan → Bool
is_free (Compute how) = true
is_free (Move how) = true
is_free (Jump route) = true
is_free (Save how) = true
is_free (Set bit) = is_free_setting bit
is_free _ = false

-- by a pointer, by a push, by a pop or by a condition: by one of these at most, or by the whole place
abbrev pub cost_among : Bool → Bool → Bool → Bool → Cost
cost_among false false false false = cost.Fixed
cost_among true false false false = cost.Points
cost_among false true false false = cost.Pushes
cost_among false false true false = cost.Pops
cost_among false false false true = cost.When
cost_among _ _ _ _ = cost.Placed

-- what the states of an instruction depend on beside itself
abbrev pub cost_of : Plan → Operand → Cost
cost_of plan o =
    if is_normalize plan || is_counting o then cost.Placed
    else cost_among (is_pointing o) (is_push plan) (is_pop plan) (is_conditional plan)

-- the place of an instruction where what its states depend on holds, or does not hold
abbrev pub place_when : Cost → ℕ → Bool → Place
place_when cost.Points shifts holds = record { operand_memory = holds; stack_memory = false; shifts = shifts; taken = false }
place_when cost.Pushes shifts holds = record { operand_memory = false; stack_memory = holds; shifts = shifts; taken = false }
place_when cost.Pops shifts holds = record { operand_memory = false; stack_memory = holds; shifts = shifts; taken = false }
place_when cost.When shifts holds = record { operand_memory = false; stack_memory = false; shifts = shifts; taken = holds }
place_when _ shifts holds = record { operand_memory = false; stack_memory = false; shifts = shifts; taken = false }

-- whether it holds, where the byte of an address is known
abbrev pub holds_at : Cost → Plan → Operand → ℕ → ℕ → (ℕ → ℕ) → Result Bool Kind
holds_at cost.Points plan o psw wsr byte = operand_outside false wsr byte o
holds_at cost.Pushes plan o psw wsr byte = Ok (is_outside ((word_seen byte 0x18 + 0xFFFE) % 0x10000))
holds_at cost.Pops plan o psw wsr byte = Ok (is_outside (word_seen byte 0x18))
holds_at cost.When plan o psw wsr byte = Ok (jump_taken plan psw)
holds_at _ plan o psw wsr byte = Ok false

-- the states depend on one condition, or on none
abbrev pub is_simple : Cost → Bool
is_simple cost.Placed = false
is_simple _ = true

-- the states, where it was found whether the condition holds
abbrev pub known_at : Predecoded → Result Bool Kind → Result ℕ Kind
known_at r found = found >>= λ holds. Ok (if holds then r.other else r.base)

-- the test of a conditional jump and what it has to be
abbrev pub test_of : Plan → Test × Bool
test_of (Jump (When test wanted)) = (test, wanted)
test_of _ = (Sticky, false)

-- what is known of an instruction of this mnemonic
unfoldable pub predecoded_of : Mnemonic → Insn → Predecoded
predecoded_of m i = record {
  insn = i;
  mnemonic = m;
  free = is_free (plan_of m);
  length = length_of i;
  cost = cost_of (plan_of m) i.operand;
  test = (test_of (plan_of m)).0;
  wanted = (test_of (plan_of m)).1;
  base = states_of i (place_when (cost_of (plan_of m) i.operand) (known_count i.operand) false);
  other = states_of i (place_when (cost_of (plan_of m) i.operand) (known_count i.operand) true);
}

-- nothing is known: an instruction of no bytes, after which the program does not go on
abbrev pub is_blank : Predecoded → Bool
is_blank r = not r.free && r.length == 0

-- a well-formed instruction with what is known of it
pub record IsPredecoded (r : Predecoded) : Type 0 where
  pub formed : IsTrue (is_formed r.insn)
  pub named : mnemonic_at r.insn.opcode r.insn.signed ≡ Some r.mnemonic
  pub known : r ≡ predecoded_of r.mnemonic r.insn
  -- it takes a state at least
  pub some : 0 < r.base
  pub some_other : 0 < r.other

-- the states of an instruction; refused as its place is
abbrev pub time_at : Insn → Cpu → Masks → (ℕ → ℕ) → Result ℕ Kind
time_at i cpu masks byte = place_of i cpu masks byte >>= λ place. Ok (states_of i place)

-- a call ended so, and says whether an instruction has to follow, or any activity may; a refusal leaves the registers as they
-- were
abbrev pub GoesOn : {H : Type 0} → Result Bool Kind → Cpu → Cpu → H → Outcome (After × Cpu) H → Type 0
GoesOn (Ok held) old new h outcome = outcome ≡ Done (if held then Held else Next, new) h
GoesOn (Err k) old new h outcome = (outcome ≡ Refused k h) × (new ≡ old)

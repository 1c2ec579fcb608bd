-- Passes through a routine: activities one after the other, each of which is the routine's own (this kit's own; calls, returns and
-- traps are those of the 80C196KC User's Manual, "Instruction Set" and "Interrupts").
use Rattle.std.specs.Prelude.{◌≡◌, ℕ, zero, suc, Bool, true, false, ◌+◌, ◌%◌, ◌<◌, ◌||◌, is_some, if◌then◌else◌, Option, Some, None, List, [], ◌∷◌, drop}
use Rattle.std.specs.Option.{option_map, option_map_or}
use Rattle.kc_isa.specs.declared.insn.Insn.{Insn}
use Rattle.kc_isa.specs.Names.{mnemonic_at}
use Rattle.kc_exec_spec.specs.declared.plan.Plan.{Plan}
use Rattle.kc_exec_spec.specs.declared.plan.Plan.TheVariants.{Jump, Trap, Idle, Reset}
use Rattle.kc_exec_spec.specs.declared.plan.Route.TheVariants.{Call, Return}
use Rattle.kc_exec_spec.specs.Plans.{plan_of}
use Rattle.kc_exec_spec.specs.Jumping.{next_pc}
use Rattle.kc_extra.specs.Further.{Further}
use Rattle.kc_machine_spec.specs.declared.doing.Activity.{Activity}
use Rattle.kc_machine_spec.specs.declared.doing.Activity.TheVariants.{Executes, MovesWord, Traps, Enters, SetsUp, Transfers, Idles, Breaks}
use Rattle.kc_machine_spec.specs.Machine.{Machine, current}
use Rattle.kc_machine_spec.specs.Run.{run_for}
use Rattle.kc_bound.specs.declared.notes.Notes.{Notes}
use Rattle.kc_bound.specs.Notes.{is_end}

-- an activity of the routine itself: no entry, no cycle of the transfer server, no idling
abbrev pub is_own : Activity → Bool
is_own (Executes insn) = true
is_own (MovesWord insn words) = true
is_own Traps = true
is_own (Breaks kind) = true
is_own (Enters number) = false
is_own (SetsUp number) = false
is_own (Transfers number cycle) = false
is_own Idles = false

-- what kind of work an instruction is
abbrev pub plan_in : Insn → Option Plan
plan_in insn = option_map plan_of (mnemonic_at insn.opcode insn.signed)

-- the address of the instruction that begins; a word of a block move is no begin
abbrev pub begun : {X : Type 0} → Machine X → Option ℕ
begun m = if is_some m.ended || is_some m.going then None else Some m.cpu.pc

-- ---- open calls: the addresses to which they return, the last call first

-- with the address behind an instruction
abbrev pub opened_by : Option Plan → ℕ → List ℕ → List ℕ
opened_by (Some (Jump Call)) back open_calls = back ∷ open_calls
opened_by (Some Trap) back open_calls = back ∷ open_calls
opened_by (Some (Jump Return)) back open_calls = drop 1 open_calls
opened_by _ back open_calls = open_calls

-- after an activity at an address; the trap of an opcode without an instruction returns to the next byte
abbrev pub opened : Activity → ℕ → List ℕ → List ℕ
opened (Executes insn) pc open_calls = opened_by (plan_in insn) (next_pc insn pc) open_calls
opened Traps pc open_calls = ((pc + 1) % 0x10000) ∷ open_calls
opened _ pc open_calls = open_calls

-- ---- where a pass is over

-- by RET with no open call, by IDLPD and by RST
abbrev pub is_last_work : Option Plan → List ℕ → Bool
is_last_work (Some (Jump Return)) [] = true
is_last_work (Some Idle) open_calls = true
is_last_work (Some Reset) open_calls = true
is_last_work _ open_calls = false

abbrev pub is_last : Activity → List ℕ → Bool
is_last (Executes insn) open_calls = is_last_work (plan_in insn) open_calls
is_last _ open_calls = false

-- an instruction would begin at which the notes end a pass
abbrev pub is_at_end : {X : Type 0} → Notes → Machine X → Bool
is_at_end notes m = option_map_or (is_end notes) (begun m) false

module _ {X : Type 0} (f : Further X) where
  -- the machine after its current activity
  abbrev pub after_activity : Machine X → Machine X
  after_activity m = (run_for f (current m).left m).machine

  -- the machine after so many activities
  unfoldable pub moment : ℕ → Machine X → Machine X
  moment zero m = m
  moment (suc k) m = after_activity (moment k m)

  -- the calls that are open after so many activities
  unfoldable pub calls_at : ℕ → Machine X → List ℕ
  calls_at zero m = []
  calls_at (suc k) m = opened (current (moment k m)).doing (moment k m).cpu.pc (calls_at k m)

  -- a pass is over after so many activities
  unfoldable pub is_over : Notes → ℕ → Machine X → Bool
  is_over notes zero m = false
  is_over notes (suc k) m = is_last (current (moment k m)).doing (calls_at k m) || is_at_end notes (moment (suc k) m)

  -- so many activities from the begin of an instruction on, each the routine's own
  pub record IsStretch (n : ℕ) (m : Machine X) : Type 0 where
    pub between : m.under_way ≡ None
    pub begins : m.going ≡ None
    pub lives : (k : ℕ) → k < n → (moment k m).ended ≡ None
    pub own : (k : ℕ) → k < n → is_own (current (moment k m)).doing ≡ true

  -- a stretch that is not over before its last activity
  pub record IsPass (notes : Notes) (n : ℕ) (m : Machine X) : Type 0 where
    pub stretch : IsStretch n m
    pub goes_on : (k : ℕ) → k < n → is_over notes k m ≡ false

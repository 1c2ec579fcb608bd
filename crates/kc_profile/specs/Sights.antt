-- What a run shows in each of its state times (80C196KC User's Manual, "Interrupts", "Peripheral Transaction Server", "Instruction Set";
-- that it is reported is this kit's own).
use Rattle.std.specs.Prelude.{◌≡◌, ℕ, zero, suc, ◌+◌, ◌-◌, ◌%◌, ◌<◌, ◌==◌, nat_le, Bool, true, false, not, ◌&&◌, ◌||◌, if◌then◌else◌, List, [], ◌∷◌, Option, Some, None}
use Rattle.kc_base.specs.Bits.{bit}
use Rattle.kc_base.specs.declared.types.IntSet.{IntSet}
use Rattle.kc_isa.specs.declared.insn.Insn.{Insn}
use Rattle.kc_isa.specs.Formed.{is_formed}
use Rattle.kc_exec_spec.specs.Jumping.{next_pc}
use Rattle.kc_intc.specs.declared.requests.Requests.{Requests}
use Rattle.kc_extra.specs.Further.{Further}
use Rattle.kc_machine_spec.specs.declared.doing.Activity.{Activity}
use Rattle.kc_machine_spec.specs.declared.doing.Activity.TheVariants.{Executes, Traps, Enters, SetsUp, Breaks}
use Rattle.kc_machine_spec.specs.declared.doing.End.{End}
use Rattle.kc_machine_spec.specs.declared.doing.End.TheVariants.{Undefined}
use Rattle.kc_machine_spec.specs.declared.doing.UnderWay.{UnderWay}
use Rattle.kc_machine_spec.specs.Board.{word_at}
use Rattle.kc_machine_spec.specs.Machine.{Machine, current}
use Rattle.kc_machine_spec.specs.Run.{run_for}
use Rattle.kc_machine.specs.Raising.{raised_in}
use Rattle.kc_profile.specs.declared.sight.Sight.{Sight}
use Rattle.kc_profile.specs.declared.sight.Way.{Way}
use Rattle.kc_profile.specs.declared.sight.Way.TheVariants.{Taken, Passed}

-- ---- what is seen of a state

abbrev pub is_undefined : Option End → Bool
is_undefined (Some (Undefined what access)) = true
is_undefined _ = false

-- an activity with one state left ends in the coming one
abbrev pub ending : UnderWay → ℕ → Option Activity
ending activity states = if nat_le activity.left states then Some activity.doing else None

-- the last of some states from a start on, of an activity that came then, with the machine behind it
abbrev pub seen_of : {X : Type 0} → ℕ → Requests → ℕ → ℕ → UnderWay → IntSet → Machine X → Sight
seen_of start requests pc stack activity raised n = record {
  at = n.time - 1;
  raised = raised;
  before = requests;
  after = n.board.units.board_registers.requests;
  ends = ending activity (n.time - start);
  is_broken = is_undefined n.ended;
  pc = pc;
  next_pc = n.cpu.pc;
  stack = stack;
  next_stack = word_at n.board.memory 0x18;
}

-- a state goes on the list of those before it, unless the machine had ended
abbrev pub unless_ended : Option End → Sight → List Sight → List Sight
unless_ended (Some how) sight earlier = earlier
unless_ended None sight earlier = sight ∷ earlier

module _ {X : Type 0} (f : Further X) where
  -- the coming state
  abbrev pub sight_of : Machine X → Sight
  sight_of m =
      seen_of m.time m.board.units.board_registers.requests m.cpu.pc (word_at m.board.memory 0x18) (current m)
      (record { 0 = raised_in f m }) (run_for f 1 m).machine

  -- the first so many states, the last of them first
  unfoldable pub history : ℕ → Machine X → List Sight
  history zero m = []
  history (suc t) m = let now = (run_for f t m).machine in unless_ended now.ended (sight_of now) (history t m)

-- a machine with which a life begins: at its state 0, and with no request
pub record Begins {X : Type 0} (m : Machine X) : Type 0 where
  pub time : m.time ≡ 0
  pub pending : m.board.units.board_registers.requests.pending ≡ 0
  pub handed : m.board.units.board_registers.requests.service ≡ 0

-- ---- what ends in a state

-- the activity that ends there, where no undefined use ends the run
abbrev pub done : Sight → Option Activity
done s = if s.is_broken then None else s.ends

abbrev pub is_entry : ℕ → Option Activity → Bool
is_entry n (Some (Enters number)) = number == n
is_entry n _ = false

abbrev pub is_setup : ℕ → Option Activity → Bool
is_setup n (Some (SetsUp number)) = number == n
is_setup n _ = false

-- the entry of a request ends there, or the setup of a cycle for it
abbrev pub enters : ℕ → Sight → Bool
enters n s = is_entry n (done s)

abbrev pub sets_up : ℕ → Sight → Bool
sets_up n s = is_setup n (done s)

-- an instruction, the trap of an opcode that no instruction has, or an undefined use that was found at the start
abbrev pub is_done : Option Activity → Bool
is_done (Some (Executes insn)) = true
is_done (Some Traps) = true
is_done (Some (Breaks kind)) = true
is_done _ = false

abbrev pub hits : Sight → Bool
hits s = is_done s.ends

abbrev pub lies_in : ℕ → ℕ → ℕ → Bool
lies_in low high n = nat_le low n && nat_le n high

-- JBC and JBS, the jumps on a flag, DJNZ and DJNZW
abbrev pub is_branch : Insn → Bool
is_branch insn =
    not insn.signed
    && (lies_in 0x30 0x3F insn.opcode || lies_in 0xD0 0xDF insn.opcode || insn.opcode == 0xE0 || insn.opcode == 0xE1)

-- the bytes of such a jump: a jump on a flag has two, one with a register three
abbrev pub branch_length : ℕ → ℕ
branch_length opcode = if lies_in 0xD0 0xDF opcode then 2 else 3

-- to the instruction behind it, or anywhere else
abbrev pub way_to : Insn → ℕ → ℕ → Way
way_to insn pc next = if next == (pc + branch_length insn.opcode) % 0x10000 then Passed else Taken

-- the address behind a well-formed jump is that of the next instruction
abbrev pub BranchesPassToTheNext : Type 0
BranchesPassToTheNext = (insn : Insn) (pc : ℕ) → is_formed insn ≡ true → is_branch insn ≡ true → (pc + branch_length insn.opcode) % 0x10000 ≡ next_pc insn pc

abbrev pub way_of : Option Activity → ℕ → ℕ → Option Way
way_of (Some (Executes insn)) pc next = if is_branch insn then Some (way_to insn pc next) else None
way_of _ pc next = None

-- which way a conditional jump goes that ends there
abbrev pub way : Sight → Option Way
way s = way_of (done s) s.pc s.next_pc

abbrev pub moves_stack : Sight → Bool
moves_stack s = not (s.next_stack == s.stack)

-- How much is done in a run (this kit's own).
use Rattle.std.specs.Prelude.{ℕ, zero, suc, ◌+◌, ◌-◌, ◌*◌, ◌≤◌, ◌==◌, nat_lt, is_some, if◌then◌else◌, Result, Ok, Err}
use Rattle.kc_base.specs.declared.types.Kind.{Kind}
use Rattle.kc_exec_spec.specs.declared.access.Access.{Access}
use Rattle.kc_exec_spec.specs.declared.access.Access.TheVariants.{ReadByte, ReadWord, WriteByte, WriteWord, SetMasks}
use Rattle.kc_exec_spec.specs.Effect.{Effect, End, Undefined, Look, Ask, Meaning}
use Rattle.kc_exec_spec.specs.Effects.{effect_of}
use Rattle.kc_exec_spec.specs.BlockMoves.{moved_word}
use Rattle.kc_exec_spec.specs.Entering.{vector_at, entry, opcode_trap}
use Rattle.kc_extra.specs.Further.{Further}
use Rattle.kc_pts.specs.Cycles as pts
use Rattle.kc_block_spec.specs.Tick.{tick}
use Rattle.kc_block_spec.specs.Touch.{one_if, worked}
use Rattle.kc_machine_spec.specs.declared.doing.Activity.{Activity}
use Rattle.kc_machine_spec.specs.declared.doing.Activity.TheVariants.{Executes, MovesWord, Traps, Enters, SetsUp, Transfers, Idles, Breaks}
use Rattle.kc_machine_spec.specs.declared.doing.UnderWay.{UnderWay}
use Rattle.kc_machine_spec.specs.Machine.{Machine, current, scene_of, step, with_units}
use Rattle.kc_machine_spec.specs.Run.{run_for}
use Rattle.kc_machine_spec.specs.Scene.{scene_meaning}

-- an address of a special function register, 0002H to 0017H
abbrev pub of_register : ℕ → ℕ
of_register addr = if nat_lt addr 2 then 0 else if nat_lt addr 24 then 1 else 0

-- an access to one counts once, a word too
abbrev pub register_access : Access → ℕ
register_access (ReadByte by addr) = of_register addr
register_access (ReadWord by addr) = of_register addr
register_access (WriteByte by addr n) = of_register addr
register_access (WriteWord by addr n) = of_register addr
register_access (SetMasks m) = 0

-- what comes after an access, where it is not refused
abbrev pub if_accepted : Result ℕ Kind → (ℕ → ℕ) → ℕ
if_accepted (Ok n) rest = rest n
if_accepted (Err kind) rest = 0

-- how many such accesses an effect makes over a bus, one that is refused among them
abbrev pub register_accesses : {A H : Type 0} → Meaning H → Effect A → H → ℕ
register_accesses bus (End a) h = 0
register_accesses bus (Undefined kind) h = 0
register_accesses bus (Look next) h = register_accesses bus (next (bus.masks h)) h
register_accesses bus (Ask r next) h = register_access r + if_accepted (bus.answer h r) (λ n. register_accesses bus (next n) (bus.after h r))

module _ {X : Type 0} (f : Further X) where
  -- those of an effect in the present state, after its Tick
  abbrev pub accesses_of : {A : Type 0} → Effect A → Machine X → ℕ
  accesses_of effect machine = register_accesses (scene_meaning f) effect (scene_of machine)

  -- what an activity does in its last state, after the Tick of that state: its accesses, and one for an entry, for a setup of
  -- the transfer server and for a transfer
  unfoldable pub work_of : Activity → Machine X → ℕ
  work_of (Executes insn) machine = accesses_of (effect_of insn machine.cpu) machine
  work_of (MovesWord insn words) machine = accesses_of (moved_word insn words machine.cpu) machine
  work_of Traps machine = accesses_of (opcode_trap machine.cpu.pc) machine
  work_of (Enters number) machine = 1 + accesses_of (entry (vector_at number) machine.cpu.pc) machine
  work_of (SetsUp number) machine = 1 + accesses_of (pts.set_up number) machine
  work_of (Transfers number cycle) machine = 1 + accesses_of (pts.served cycle) machine
  work_of Idles machine = 0
  work_of (Breaks kind) machine = 0

  -- one state time with this activity: one for a Tick that is worked, and what the activity does if the state is its last
  unfoldable pub work_with : Machine X → UnderWay → ℕ
  work_with machine activity =
      one_if (worked f machine.time machine.board.units)
      + (if activity.left == 1 then work_of activity.doing (with_units machine (tick f machine.time machine.board.units).units) else 0)

  -- The work of so many state times, or of those up to the end of the run: worked Ticks, accesses to 0002H to 0017H, entries,
  -- setups and transfers. States in which none of these comes add nothing.
  unfoldable pub work_for : ℕ → Machine X → ℕ
  work_for zero machine = 0
  work_for (suc more) machine =
      if is_some machine.ended then 0
      else work_with machine (current machine) + work_for more (step f machine).machine

  -- up to this state, or to the end before it
  abbrev pub work_to : ℕ → Machine X → ℕ
  work_to until machine = work_for (until - machine.time) machine

-- the touch of a run is at most four times its work
abbrev pub TouchIsWithinWork : Type 0 → Type 0
TouchIsWithinWork X = (f : Further X) (n : ℕ) (machine : Machine X) → (run_for f n machine).touch ≤ 4 * work_for f n machine

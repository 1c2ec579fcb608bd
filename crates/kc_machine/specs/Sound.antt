-- What is so of each activity that the machine begins, and of what goes on between activities (this kit's own).
use Rattle.std.specs.Prelude.{◌≡◌, ℕ, ◌<◌, true, IsTrue, Option, Some, None}
use Rattle.kc_base.specs.Limits.{transfer_count}
use Rattle.kc_isa.specs.declared.insn.Insn.{Insn}
use Rattle.kc_isa.specs.Formed.{is_formed}
use Rattle.kc_exec_spec.specs.declared.cpu.Words.{Words}
use Rattle.kc_exec_spec.specs.BlockMoves.{IsUnderWay}
use Rattle.kc_pts.specs.declared.cycle.Cycle.{Cycle}
use Rattle.kc_pts.specs.Cycles.{is_block}
use Rattle.kc_machine_spec.specs.declared.doing.Activity.{Activity}
use Rattle.kc_machine_spec.specs.declared.doing.Activity.TheVariants.{Executes, MovesWord, Enters, SetsUp, Transfers}
use Rattle.kc_machine_spec.specs.declared.doing.Going.{Going}
use Rattle.kc_machine_spec.specs.declared.doing.Going.TheVariants.{Moving, Serving}
use Rattle.kc_machine_spec.specs.declared.doing.UnderWay.{UnderWay}
use Rattle.kc_extra.specs.declared.extra.Extra as extra
use Rattle.kc_machine.specs.declared.parts.Core.{Core}

-- these are words of this block move
pub record IsSoundMove (insn : Insn) (words : Words) : Type 0 where
  pub formed : IsTrue (is_formed insn)
  pub under_way : IsUnderWay insn words

-- this is a cycle of a request below NMI, whose control block stands where one may, with transfers left
pub record IsSoundCycle (number : ℕ) (cycle : Cycle) : Type 0 where
  pub below : number < transfer_count
  pub block : is_block cycle.block ≡ true
  pub some : 0 < cycle.left

abbrev pub IsSoundActivity : Activity → Type 0
IsSoundActivity (Executes insn) = IsTrue (is_formed insn)
IsSoundActivity (MovesWord insn words) = IsSoundMove insn words
IsSoundActivity (Enters number) = number < 16
IsSoundActivity (SetsUp number) = number < transfer_count
IsSoundActivity (Transfers number cycle) = IsSoundCycle number cycle
IsSoundActivity _ = Unit {0}

-- an activity has states left
pub record IsGoing (activity : UnderWay) : Type 0 where
  pub sound : IsSoundActivity activity.doing
  pub some : 0 < activity.left

abbrev pub IsSoundUnderWay : Option UnderWay → Type 0
IsSoundUnderWay (Some activity) = IsGoing activity
IsSoundUnderWay None = Unit {0}

abbrev pub IsSoundGoing : Option Going → Type 0
IsSoundGoing (Some (Moving insn words)) = IsSoundMove insn words
IsSoundGoing (Some (Serving number cycle)) = IsSoundCycle number cycle
IsSoundGoing _ = Unit {0}

-- between two states, with the units at the machine's state
pub record IsPredecoded {X : Type 0} {d : extra.Ghosts X} (core : Core X d) : Type 0 where
  pub activity : IsSoundUnderWay core.under_way
  pub between : IsSoundGoing core.going
  pub stands : core.bus.block.time ≡ core.time

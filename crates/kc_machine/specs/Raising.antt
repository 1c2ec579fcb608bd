-- One state time of a machine, with the requests that its units raise (this kit's own).
use Rattle.std.specs.Prelude.{◌≡◌, ℕ, ◌+◌, ◌*◌, ◌<◌, ◌≤◌, IfOk, OnOk, OnErr, Result}
use Rattle.kc_base.specs.declared.types.IntSet.{IntSet}
use Rattle.kc_extra.specs.Further.{Further}
use Rattle.kc_extra.specs.declared.extra.Extra as extra
use Rattle.kc_trace.specs.Out.{Out, Prints}
use Rattle.kc_trace.specs.declared.trace.WriteFault.{WriteFault}
use Rattle.kc_block_spec.specs.Costs.{CostsAtMost}
use Rattle.kc_block_spec.specs.Tick.{raised_at, further_out_at, ◌∪◌}
use Rattle.kc_machine_spec.specs.Machine.{Machine}
use Rattle.kc_machine_spec.specs.Run.{run_to}
use Rattle.kc_machine.specs.declared.parts.Core.{Core}
use Rattle.kc_machine.specs.Failing.{FailsIn}
use Rattle.kc_machine.specs.Seen.{machine_of}

-- the requests that all units raise in the coming state, also those of which one is pending already
abbrev pub raised_in : {X : Type 0} → Further X → Machine X → ℕ
raised_in f m = raised_at m.time m.board.units ∪ (further_out_at f m.time m.board.units).raised.0

-- the parts have gone on by one state, with the requests that were raised in it; or, where the sink has failed, to the end of
-- the activity, or to this state if that comes first
pub record StepsAs {X : Type 0} {d : extra.Ghosts X} (f : Further X) (until : ℕ) (result : Result IntSet WriteFault) (old new : Core X d) (o p : Out) (steps_before steps_after : ℕ) : Type 0 where
  pub forward : old.time < new.time
  pub within : new.time ≤ until
  pub machine : machine_of new ≡ (run_to f new.time (machine_of old)).machine
  pub lines : Prints o (run_to f new.time (machine_of old)).records p
  pub costs : CostsAtMost (4 * (run_to f new.time (machine_of old)).touch) steps_before steps_after old.bus.block.moves new.bus.block.moves
  pub one : OnOk result (new.time ≡ old.time + 1)
  pub raised : IfOk result (λ set. set.0 ≡ raised_in f (machine_of old))
  pub fails : OnErr result (FailsIn f until (machine_of old) o (machine_of new) p)

-- Where a machine stands when the sink of its trace has failed (this kit's own).
use Rattle.std.specs.Prelude.{◌≡◌, ℕ, ◌<◌, ◌≤◌, min, false, true, []}
use Rattle.kc_extra.specs.Further.{Further}
use Rattle.kc_trace.specs.Out.{Out, Prints}
use Rattle.kc_machine_spec.specs.Machine.{Machine}
use Rattle.kc_machine_spec.specs.Run.{run_to}
use Rattle.kc_machine_spec.specs.Passing.{activity_end}

-- a machine has gone on without a line to where an activity begins, and then to the end of that, or to a state before it
pub record Passes {X : Type 0} (f : Further X) (until : ℕ) (m n : Machine X) : Type 0 where
  pub began : ℕ
  pub from : m.time ≤ began
  pub begins : began < n.time
  pub there : (run_to f began m).machine.time ≡ began
  pub silent : (run_to f began m).records ≡ []
  pub over : n.time ≡ min until (activity_end (run_to f began m).machine)

-- The sink has failed in the lines of an activity, or of an idle state: those of the states before it were written whole, and
-- of its own a prefix. The machine stands where this activity is over, or at the end of the run if that comes first.
pub record FailsIn {X : Type 0} (f : Further X) (until : ℕ) (m : Machine X) (o : Out) (n : Machine X) (p : Out) : Type 0 where
  -- the state at which the activity begins, and the trace there
  pub began : ℕ
  pub mid : Out
  pub from : m.time ≤ began
  pub begins : began < n.time
  pub whole : Prints o (run_to f began m).records mid
  pub unbroken : mid.failed ≡ false
  pub part : Prints mid (run_to f n.time (run_to f began m).machine).records p
  pub failed : p.failed ≡ true
  pub stands : n ≡ (run_to f n.time m).machine
  pub over : n.time ≡ min until (activity_end (run_to f began m).machine)

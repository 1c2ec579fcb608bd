-- What a part of a run has done to a machine and to a trace (this kit's own).
use Rattle.std.specs.Prelude.{◌≡◌, ℕ, ◌+◌, ◌-◌, ◌*◌, ◌<◌, ◌≤◌, ◌⊎◌, max, false, replicate, Option, Some, None, Result, OnOk, OnErr}
use Rattle.kc_span.specs.Span.{after, QuietFor}
use Rattle.kc_extra.specs.Further.{Further}
use Rattle.kc_trace.specs.Out.{Out, Prints}
use Rattle.kc_trace.specs.declared.trace.WriteFault.{WriteFault}
use Rattle.kc_block_spec.specs.Costs.{CostsAtMost}
use Rattle.kc_block_spec.specs.Touch.{block_rule}
use Rattle.kc_machine_spec.specs.declared.doing.Activity.{Activity}
use Rattle.kc_machine_spec.specs.declared.doing.Activity.TheVariants.{Idles}
use Rattle.kc_machine_spec.specs.Machine.{Machine, current}
use Rattle.kc_machine_spec.specs.Run.{run_for, run_to}
use Rattle.kc_machine.specs.Board.{Whole}
use Rattle.kc_machine.specs.Failing.{FailsIn}
use Rattle.kc_profile.specs.Sights.{ending, history, Begins}
use Rattle.kc_profile.specs.Spots.{coming_spot, spots_for}
use Rattle.kc_profile.specs.Statistics.{Statistics, AreStatisticsOf}

-- no activity, or an idle state
abbrev pub IsNoneOrIdle : Option Activity → Type 0
IsNoneOrIdle doing = (doing ≡ None) ⊎ (doing ≡ Some Idles)

module _ {X : Type 0} (f : Further X) where
  -- a machine goes through so many states, and ends in none but the last of them
  abbrev pub LastsFor : ℕ → Machine X → Type 0
  LastsFor n m = (k : ℕ) → k ≤ n → (run_for f k m).machine.time ≡ m.time + k

  -- some states of one spot have passed, and their lines have been put
  pub record Passed (until : ℕ) (m : Machine X) (o : Out) (n : Machine X) (p : Out) : Type 0 where
    pub forward : m.time < n.time
    pub within : n.time ≤ until
    pub machine : n ≡ (run_to f n.time m).machine
    pub lines : Prints o (run_to f n.time m).records p
    pub spots : spots_for f (n.time - m.time) m ≡ replicate (n.time - m.time) (coming_spot m)

  -- a call has gone on by states of one spot, at the cost of what is touched in them; it answers a fault where the sink has failed
  pub record Went {A : Type 0} (until : ℕ) (result : Result A WriteFault) (m : Whole X) (o : Out) (before : ℕ) (n : Whole X) (p : Out) (after : ℕ) : Type 0 where
    pub passed : Passed until m.machine o n.machine p
    pub fails : OnErr result (FailsIn f until m.machine o n.machine p)
    pub costs : CostsAtMost (4 * (run_to f n.machine.time m.machine).touch) before after m.moves n.moves
    pub written : OnOk result (p.failed ≡ false)

  -- a machine so many states on that is as it was, but that its units have gone on by themselves
  pub record IsAlone (k : ℕ) (m n : Machine X) : Type 0 where
    pub time : n.time ≡ m.time + k
    pub lives : n.ended ≡ None
    pub cpu : n.cpu ≡ m.cpu
    pub memory : n.board.memory ≡ m.board.memory
    pub units : n.board.units ≡ after (block_rule f) m.time k m.board.units
    pub ends : ending (current n) 1 ≡ ending (current m) (k + 1)

  -- some states of an activity, or idle ones: before the last the units do nothing, nothing is accessed, and nothing but idle states ends
  pub record PassesAlone (n : ℕ) (m : Machine X) : Type 0 where
    pub each : (k : ℕ) → k < n → IsAlone k m (run_for f k m).machine
    pub between : (k : ℕ) → k + 1 < n → IsNoneOrIdle (ending (current m) (k + 1))
    pub quiet : QuietFor (block_rule f) m.time (n - 1) m.board.units

  -- where some statistics are those of a life up to one machine, others are those up to a later machine
  abbrev pub CountsOn : ℕ → Machine X → Statistics → Machine X → Statistics → Type 0
  CountsOn life m t n u = (first : Machine X) → Begins first → m ≡ (run_to f m.time first).machine → AreStatisticsOf life (history f m.time first) t → AreStatisticsOf life (history f n.time first) u

  -- of a life up to a state nothing is seen that was not seen up to this machine
  abbrev pub ShowsNoMore : ℕ → Machine X → Machine X → Type 0
  ShowsNoMore until m n = (first : Machine X) → m ≡ (run_to f m.time first).machine → first.time ≡ 0 → history f (max until m.time) first ≡ history f n.time first

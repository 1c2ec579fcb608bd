-- What is known of a run that was counted (this kit's own).
use Rattle.std.specs.Prelude.{◌≡◌, ◌≢◌, ◌⊎◌, ℕ, ◌≤◌, Bool, true, false, List}
use Rattle.std.specs.List.{Any}
use Rattle.kc_trace.specs.Out.{Out, Puts}
use Rattle.kc_trace.specs.Text.{text_of}
use Rattle.kc_machine_spec.specs.declared.doing.End.{End}
use Rattle.kc_machine_spec.specs.Machine.{Machine}
use Rattle.kc_machine_spec.specs.Text.{HasRun}
use Rattle.kc_cycles.specs.declared.lives.LivesFault.{LivesFault}
use Rattle.kc_cycles.specs.declared.lives.LivesFault.TheVariants as fault
use Rattle.kc_cycles.specs.Life.{Life, life_for}
use Rattle.kc_cycles.specs.Making.{deadline_of}
use Rattle.kc_kit_files.specs.declared.status.Status.TheVariants as status
use Rattle.kc_kit_files.specs.declared.ended.Ended.{Ended}
use Rattle.kc_kit_files.specs.Outside.{Kept, Wrote}
use Rattle.kc_kit_files.specs.Response.{Write}
use Rattle.kc_kit_running.specs.Profiled.{Run, Texts, pauses_of}
use Rattle.kc_kit_running.specs.Running.{IsEndOf}
use Rattle.kc_kit_running.specs.Sources.{FileLines}
use Rattle.kc_kit_running.specs.Watched.{WatchedUnit, watched_further}
use Rattle.kc_kit_running.specs.Writing.{AreWritten}

-- its text is printed whole, and what was counted is in these texts
pub record HasPassed (run : Run) (old : Out) (ended : End) (behind : Texts) (new : Out) : Type 0 where
  pub how : ended ≡ run.how
  pub lines : Puts old run.text new
  pub written : new.failed ≡ false
  pub texts : behind ≡ run.texts

-- the sink failed in the text, or memory ran out at a pause
abbrev pub HasFailed : Run → Out → LivesFault → Out → Type 0
HasFailed run old fault.WriteFault new = Puts old run.text new × (new.failed ≡ true)
HasFailed run old fault.NoMemory new = Any (λ text. Puts old text new) (pauses_of run) × (new.failed ≡ false)

-- these files are written, and the command has ended as its run; or one is refused
abbrev pub HasFinished : FileLines → End → List Write → Kept → Ended → Kept → Type 0
HasFinished lines how ws old ended new =
    (IsEndOf lines how ended × Wrote old ws new) ⊎ ((ended.status ≢ status.Done) × AreWritten old ws ended new)

-- ---- one life

abbrev pub life_of : ℕ → Machine WatchedUnit → Life WatchedUnit
life_of until m = life_for watched_further deadline_of until m

-- it has ended so, and its lines are put
pub record HasLived (until : ℕ) (m : Machine WatchedUnit) (old : Out) (ended : End) (late : Bool) (n : Machine WatchedUnit) (new : Out) : Type 0 where
  pub how : ended ≡ (life_of until m).how
  pub by_watchdog : late ≡ (life_of until m).by_watchdog
  pub machine : n ≡ (life_of until m).ran.machine
  pub lines : Puts old (text_of (life_of until m).ran.records) new
  pub ran : HasRun ended n.time
  pub within : n.time ≤ until
  pub written : new.failed ≡ false

-- the sink failed in its lines
pub record HasBroken (until : ℕ) (m : Machine WatchedUnit) (old new : Out) : Type 0 where
  pub lines : Puts old (text_of (life_of until m).ran.records) new
  pub failed : new.failed ≡ true

-- What all rules of a file have seen of a run: its lives, one after the other (this kit's own).
use Rattle.std.specs.Prelude.{◌≡◌, ℕ, ◌<◌, ◌^◌, List, [], ◌∷◌}
use Rattle.kc_base.specs.declared.types.Level.{Level}
use Rattle.kc_trace.specs.declared.life.Signal.{Signal}
use Rattle.kc_trace.specs.Lives.{Life, State, AreStatesFrom}
use Rattle.kc_monitor.specs.declared.watch.Watch.{Watch}
use Rattle.kc_monitor.specs.Reported.{life_of, AreStatesUpTo}
use Rattle.kc_monitor.specs.Watches.{IsBegin, IsState, IsOver}

-- a life as it is reported: the levels as it begins, what happens in each state, and its last state
pub record ReportedLife : Type 0 where
  pub start : Signal → Level
  pub states : List State
  pub last : ℕ

abbrev pub life_reported : ReportedLife → Life
life_reported reported = life_of reported.start reported.states reported.last

pub record IsReportedLife (reported : ReportedLife) : Type 0 where
  pub order : AreStatesFrom 0 reported.states
  pub within : AreStatesUpTo reported.last reported.states
  pub short : reported.last < 2 ^ 63

unfoldable pub AreReportedLives : List ReportedLife → Type 0
AreReportedLives [] = Unit {0}
AreReportedLives (reported ∷ lives) = IsReportedLife reported × AreReportedLives lives

-- state by state
unfoldable pub Sees : List State → Watch → Watch → Type 0
Sees [] v w = v ≡ w
Sees (s ∷ states) v w = (u : Watch) × IsState s.at s.whats v u × Sees states u w

-- life by life
unfoldable pub SeesAll : List ReportedLife → Watch → Watch → Type 0
SeesAll [] v w = v ≡ w
SeesAll (reported ∷ lives) v w =
    (a : Watch) × (b : Watch) × (c : Watch) × IsBegin reported.start v a × Sees reported.states a b × IsOver reported.last b c × SeesAll lives c w

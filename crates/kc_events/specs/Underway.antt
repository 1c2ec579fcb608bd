-- What a course keeps of a run (this kit's own).
use Rattle.std.specs.Prelude.{◌≡◌, ℕ, ◌+◌, ◌-◌, ◌≤◌, Bool, true, false, Option, Some, None, List, ◌∷◌}
use Rattle.kc_base.specs.Limits.{max_states}
use Rattle.kc_trace.specs.declared.life.What.{What}
use Rattle.kc_trace.specs.declared.life.Event.{Event}
use Rattle.kc_trace.specs.declared.levels.Levels.{Levels}
use Rattle.kc_trace.specs.Lives.{State}
use Rattle.kc_trace.specs.Tables.{level_in}
use Rattle.kc_stim.specs.Drives.{Drives}
use Rattle.kc_events.specs.declared.line.Line.{Line}
use Rattle.kc_events.specs.declared.line.Line.TheVariants.{Printed, Restarted}
use Rattle.kc_events.specs.declared.course.Step.{Step}
use Rattle.kc_events.specs.declared.course.Step.TheVariants as step
use Rattle.kc_events.specs.declared.course.Known.{Known}
use Rattle.kc_events.specs.declared.course.Known.TheVariants.{Living, Ending, Ended}
use Rattle.kc_events.specs.Steps.{Seen, Begins, Passes, Ends}
use Rattle.kc_events.specs.Coming.{Present, Running, GoesOn, steps_to_come, MayBeNext}

-- the present state of a run, what happened in the state that passed last, and what is known, with the levels in a table
pub record Underway : Type 0 where
  pub drives : Drives
  pub base : ℕ
  pub time : ℕ
  pub levels : Levels
  pub whats : List What
  pub has_begun : Bool
  pub passed : List What
  pub ahead : Option Event
  pub known : Known

abbrev pub present_in : Underway → Present
present_in u = record { drives = u.drives; base = u.base; now = u.time; levels = level_in u.levels; whats = u.whats; has_begun = u.has_begun }

abbrev pub running_in : Underway → Running
running_in u = record { present = present_in u; passed = u.passed; ahead = u.ahead; known = u.known }

-- the state that has passed last
abbrev pub state_passed : Underway → State
state_passed u = record { at = u.time - 1; whats = u.passed }

-- the step that is given, with what has happened
abbrev pub seen_by : Step → Underway → Seen
seen_by step.Begins u = Begins (level_in u.levels)
seen_by (step.Passes at) u = Passes (record { at = at; whats = u.passed })
seen_by (step.Ends at) u = Ends at

-- ---- when a line is fed

-- no step is left that the lines so far report
abbrev pub needs_line : Option Event → Known → Bool
needs_line None Living = true
needs_line None Ended = true
needs_line _ _ = false

-- the state of the run in which the life began, of which the next line reports
abbrev pub base_ahead : ℕ → Known → ℕ
base_ahead base (Ending count true) = base + count
base_ahead base _ = base

-- and behind a line
abbrev pub base_behind : ℕ → Line → ℕ
base_behind base (Printed item) = base
base_behind base (Restarted at by_watchdog) = base + at + 1

-- another line may report of a life
abbrev pub IsOpen : Known → Type 0
IsOpen Living = Unit {0}
IsOpen (Ending count true) = Unit {0}
IsOpen _ = ⊥

-- the next life begins no later than a run may last
abbrev pub IsEarly : ℕ → Known → Line → Type 0
IsEarly base Living (Restarted at by_watchdog) = base + at ≤ max_states
IsEarly base _ _ = Unit {0}

-- ---- what a step does

-- a step is reported, and the others are to come
pub record Gives (old : Underway) (step : Step) (new : Underway) : Type 0 where
  pub steps : (lines : List Line) → MayBeNext (running_in old) lines → steps_to_come (running_in old) lines ≡ seen_by step new ∷ steps_to_come (running_in new) lines
  pub next : (lines : List Line) → MayBeNext (running_in old) lines → MayBeNext (running_in new) lines

-- no step is reported
pub record ReportsNone (old new : Underway) : Type 0 where
  pub steps : (lines : List Line) → MayBeNext (running_in old) lines → steps_to_come (running_in old) lines ≡ steps_to_come (running_in new) lines
  pub next : (lines : List Line) → MayBeNext (running_in old) lines → MayBeNext (running_in new) lines

abbrev pub Stepped : Underway → Option Step → Underway → Type 0
Stepped old None new = ReportsNone old new
Stepped old (Some step) new = Gives old step new

-- ---- what stays

-- the next line reports of the same life
abbrev pub KeepsBase : Underway → Underway → Type 0
KeepsBase old new = IsOpen new.known → IsOpen old.known × (base_ahead new.base new.known ≡ base_ahead old.base old.known)

-- the same life goes on, and the same is known of it
pub record IsSameLife (old new : Underway) : Type 0 where
  pub base : new.base ≡ old.base
  pub begun : new.has_begun ≡ old.has_begun
  pub ahead : new.ahead ≡ old.ahead
  pub known : new.known ≡ old.known

-- ---- the bounds of what is kept

abbrev pub IsEarlyEvent : Option Event → Type 0
IsEarlyEvent None = Unit {0}
IsEarlyEvent (Some e) = e.at ≤ max_states

abbrev pub IsEarlyEnd : ℕ → Known → Type 0
IsEarlyEnd base (Ending count true) = base + count ≤ max_states + 1
IsEarlyEnd base (Ending count false) = count ≤ max_states + 1
IsEarlyEnd base _ = Unit {0}

-- an event that is reported is one of a life that goes on
abbrev pub GoesIfAhead : Option Event → Known → Type 0
GoesIfAhead None known = Unit {0}
GoesIfAhead (Some e) known = GoesOn known

pub record IsSteady (u : Underway) : Type 0 where
  pub base : u.base ≤ max_states + 1
  pub time : u.time ≤ max_states + 1
  pub event : IsEarlyEvent u.ahead
  pub end : IsEarlyEnd u.base u.known
  pub goes : GoesIfAhead u.ahead u.known

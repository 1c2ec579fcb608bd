-- The steps of a run that are to come, while its lines become known (this kit's own).
use Rattle.std.specs.Prelude.{◌≡◌, ℕ, zero, suc, ◌+◌, ◌-◌, ◌≤◌, Bool, true, false, Option, Some, None, List, [], ◌∷◌, ◌++◌}
use Rattle.kc_base.specs.declared.types.Level.{Level}
use Rattle.kc_trace.specs.declared.life.Signal.{Signal}
use Rattle.kc_trace.specs.declared.life.What.{What}
use Rattle.kc_trace.specs.declared.life.Event.{Event}
use Rattle.kc_trace.specs.Lives.{State}
use Rattle.kc_stim.specs.Drives.{Drives}
use Rattle.kc_trace.specs.declared.record.Record.TheVariants.{Stopped}
use Rattle.kc_events.specs.declared.line.Line.{Line}
use Rattle.kc_events.specs.declared.line.Line.TheVariants.{Printed, Restarted}
use Rattle.kc_events.specs.declared.course.Known.{Known}
use Rattle.kc_events.specs.declared.course.Known.TheVariants.{Living, Ending, Ended}
use Rattle.kc_events.specs.Lives.{input_edges, start_levels, levels_after, reported_in, states_from, event_of, end_event, count_at, restart_event}
use Rattle.kc_events.specs.Steps.{Seen, Begins, Passes, Ends, passes, steps_with}

-- What drives the inputs, the state of the run in which the life began, the present state of the life, the levels at the end of the
-- state before it, what has happened in it so far, and whether it was reported that the life begins.
pub record Present : Type 0 where
  pub drives : Drives
  pub base : ℕ
  pub now : ℕ
  pub levels : Signal → Level
  pub whats : List What
  pub has_begun : Bool

-- Beside it what has happened in the state that passed last, the event that was reported last and is still to happen, and what is known
-- of the end.
pub record Running : Type 0 where
  pub present : Present
  pub passed : List What
  pub ahead : Option Event
  pub known : Known

-- a life that is to begin in a state of the run
abbrev pub start_of : Drives → ℕ → Present
start_of d base = record {
  drives = d;
  base = base;
  now = 0;
  levels = start_levels d base;
  whats = input_edges d (start_levels d base) base;
  has_begun = false;
}

-- so many states from one on, in which this has happened already
abbrev pub states_on : Drives → ℕ → List Event → ℕ → ℕ → (Signal → Level) → List What → List State
states_on d base reported zero t levels whats = []
states_on d base reported (suc more) t levels whats =
    let all = whats ++ reported_in t reported in
    record { at = t; whats = all } ∷ states_from d base reported more (t + 1) (levels_after levels all)

abbrev pub begin_of : Bool → (Signal → Level) → List Seen
begin_of true levels = []
begin_of false levels = Begins levels ∷ []

-- the rest of a life of so many states, of which this is reported
abbrev pub rest_of : Present → List Event → ℕ → List Seen
rest_of p reported zero = begin_of p.has_begun p.levels
rest_of p reported (suc last) = begin_of p.has_begun p.levels ++ (passes (states_on p.drives p.base reported (suc last - p.now) p.now p.levels p.whats) ++ Ends last ∷ [])

unfoldable pub rest_by : Present → List Event → List Line → List Seen
rest_by p reported [] = []
rest_by p reported (Printed (Stopped at how) ∷ lines) = rest_of p (reported ++ end_event at how) (count_at at how)
rest_by p reported (Printed item ∷ lines) = rest_by p (reported ++ event_of item) lines
rest_by p reported (Restarted at by_watchdog ∷ lines) =
    rest_of p (reported ++ restart_event at by_watchdog ∷ []) (at + 1) ++ steps_with p.drives (p.base + at + 1) [] lines

abbrev pub events_ahead : Option Event → List Event
events_ahead None = []
events_ahead (Some e) = e ∷ []

abbrev pub others_of : Bool → Drives → ℕ → List Line → List Seen
others_of true d base lines = steps_with d base [] lines
others_of false d base lines = []

abbrev pub rest_at : Present → List Event → Known → List Line → List Seen
rest_at p reported Living lines = rest_by p reported lines
rest_at p reported (Ending count is_followed) lines = rest_of p reported count ++ others_of is_followed p.drives (p.base + count) lines
rest_at p reported Ended lines = []

-- the steps to come, where these lines are
abbrev pub steps_to_come : Running → List Line → List Seen
steps_to_come r lines = rest_at r.present (events_ahead r.ahead) r.known lines

-- ---- which lines may be to come

abbrev pub AreFrom : ℕ → List Event → Type 0
AreFrom t [] = Unit {0}
AreFrom t (e ∷ events) = (t ≤ e.at) × AreFrom t events

-- the state of the last of these events, or the one before them
abbrev pub state_behind : ℕ → List Event → ℕ
state_behind t [] = t
state_behind t (e ∷ events) = state_behind e.at events

-- What lines report of a life stands in the order of states from this one on, and the life ends; and so on for the lives behind it.
unfoldable pub AreDue : ℕ → List Line → Type 0
AreDue t [] = ⊥
AreDue t (Printed (Stopped at how) ∷ lines) = AreFrom t (end_event at how) × (t ≤ count_at at how)
AreDue t (Printed item ∷ lines) = AreFrom t (event_of item) × AreDue (state_behind t (event_of item)) lines
AreDue t (Restarted at by_watchdog ∷ lines) = (t ≤ at) × AreDue 0 lines

abbrev pub AreDueIf : Bool → List Line → Type 0
AreDueIf true lines = AreDue 0 lines
AreDueIf false lines = Unit {0}

abbrev pub MayCome : ℕ → Known → List Line → Type 0
MayCome t Living lines = AreDue t lines
MayCome t (Ending count is_followed) lines = (t ≤ count) × AreDueIf is_followed lines
MayCome t Ended lines = Unit {0}

-- lines that may be to come
pub record MayBeNext (r : Running) (lines : List Line) : Type 0 where
  pub ahead : AreFrom r.present.now (events_ahead r.ahead)
  pub coming : MayCome (state_behind r.present.now (events_ahead r.ahead)) r.known lines

-- ---- how a life goes on

-- behind the present state
abbrev pub behind : Present → Present
behind p = record p {
  now = p.now + 1;
  levels = levels_after p.levels p.whats;
  whats = input_edges p.drives (levels_after p.levels p.whats) (p.base + (p.now + 1));
}

-- where nothing has happened in the present state, no input has an edge in it
abbrev pub IsStillIn : Present → Type 0
IsStillIn p = p.whats ≡ [] → input_edges p.drives p.levels (p.base + p.now) ≡ []

-- it goes on, or its end is known and has not come
abbrev pub GoesOn : Known → Type 0
GoesOn Ended = ⊥
GoesOn _ = Unit {0}

-- what is known of a life that goes on, and lines that may be to come, are of this state or later ones
pub record IsBeyond (at : ℕ) (reported : List Event) (known : Known) (lines : List Line) : Type 0 where
  pub goes : GoesOn known
  pub events : AreFrom at reported
  pub coming : MayCome at known lines

-- no state in which anything happens has passed on the way to this state
abbrev pub HasSameRest : ℕ → Present → Present → Type 0
HasSameRest at old new = (reported : List Event) (known : Known) (lines : List Line) → IsBeyond at reported known lines → rest_at old reported known lines ≡ rest_at new reported known lines

-- this state has passed on the way to this one
abbrev pub HasPassed : ℕ → Present → State → Present → Type 0
HasPassed at old state new = (reported : List Event) (known : Known) (lines : List Line) → IsBeyond at reported known lines → rest_at old reported known lines ≡ Passes state ∷ rest_at new reported known lines

-- a line reports this event, which is ahead then, and this of the end
pub record IsFed (line : Line) (ahead : Option Event) (known : Known) : Type 0 where
  pub steps : (p : Present) (lines : List Line) → rest_at p (events_ahead ahead) known lines ≡ rest_by p [] (line ∷ lines)
  pub next : (t : ℕ) (lines : List Line) → AreDue t (line ∷ lines) → AreFrom t (events_ahead ahead) × MayCome (state_behind t (events_ahead ahead)) known lines

-- The lives of a run one step at a time: a life begins, each state of it passes in which anything happens, and it ends (this kit's
-- own).
use Rattle.std.specs.Prelude.{ℕ, zero, suc, ◌+◌, Bool, true, false, not, List, [], ◌∷◌, ◌++◌, map, filter}
use Rattle.kc_base.specs.declared.types.Level.{Level}
use Rattle.kc_trace.specs.declared.life.Signal.{Signal}
use Rattle.kc_trace.specs.declared.life.What.{What}
use Rattle.kc_trace.specs.declared.life.Event.{Event}
use Rattle.kc_trace.specs.Lives.{Life, State, events_of}
use Rattle.kc_stim.specs.Drives.{Drives}
use Rattle.kc_trace.specs.declared.record.Record.TheVariants.{Stopped}
use Rattle.kc_events.specs.declared.line.Line.{Line}
use Rattle.kc_events.specs.declared.line.Line.TheVariants.{Printed, Restarted}
use Rattle.kc_events.specs.Lives.{start_levels, states_from, event_of, end_event, count_at, restart_event}

pub data Seen : Type 0 where
  -- a life begins, with these levels before state 0
  Begins : (Signal → Level) → Seen
  -- a state passes
  Passes : State → Seen
  -- the life ends behind this state
  Ends : ℕ → Seen

abbrev pub is_still : List What → Bool
is_still [] = true
is_still (w ∷ whats) = false

-- the states in which anything happens
abbrev pub passes : List State → List Seen
passes states = map Passes (filter (λ s. not (is_still s.whats)) states)

-- a life of so many states; one of none begins, and has no last state
abbrev pub seen_of : Drives → ℕ → List Event → ℕ → List Seen
seen_of d base reported zero = Begins (start_levels d base) ∷ []
seen_of d base reported (suc last) = Begins (start_levels d base) ∷ passes (states_from d base reported (suc last) 0 (start_levels d base)) ++ Ends last ∷ []

-- the steps of lines, where the first life began in this state of the run, and this was known of it before
unfoldable pub steps_with : Drives → ℕ → List Event → List Line → List Seen
steps_with d base reported [] = []
steps_with d base reported (Printed (Stopped at how) ∷ lines) = seen_of d base (reported ++ end_event at how) (count_at at how)
steps_with d base reported (Printed item ∷ lines) = steps_with d base (reported ++ event_of item) lines
steps_with d base reported (Restarted at by_watchdog ∷ lines) =
    seen_of d base (reported ++ restart_event at by_watchdog ∷ []) (at + 1) ++ steps_with d (base + at + 1) [] lines

abbrev pub steps_of : Drives → List Line → List Seen
steps_of d lines = steps_with d 0 [] lines

-- ---- the lives that steps make up

-- by the levels with which the life began, and its states so far
abbrev pub lives_seen : (Signal → Level) → List State → List Seen → List Life
lives_seen start states [] = []
lives_seen start states (Begins levels ∷ steps) = lives_seen levels [] steps
lives_seen start states (Passes state ∷ steps) = lives_seen start (states ++ state ∷ []) steps
lives_seen start states (Ends last ∷ steps) = record { start = start; events = events_of states; last = last } ∷ lives_seen start [] steps

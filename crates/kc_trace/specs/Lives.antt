-- A life of a board, from its start or a reset to its end, as what happens in it (this kit's own).
--
-- In a state the edges of inputs come first, in the order of their pins; then what the board prints, in its order; then, in the
-- last state of a life, a reset, the watchdog or powerdown. A position is a place in this list: of two events of one state the
-- one that comes first in the list is earlier.
use Rattle.std.specs.Prelude.{ℕ, ◌≤◌, ◌^◌, ◌+◌, if◌then◌else◌, List, [], ◌∷◌, fold, map, flat_map, ◌≡◌}
use Rattle.kc_base.specs.Limits.{max_states}
use Rattle.kc_base.specs.Series.{up_to}
use Rattle.kc_base.specs.declared.types.Level.{Level}
use Rattle.kc_trace.specs.declared.life.Signal.{Signal}
use Rattle.kc_trace.specs.declared.life.What.{What}
use Rattle.kc_trace.specs.declared.life.What.TheVariants.{Edge}
use Rattle.kc_trace.specs.declared.life.Event.{Event}
use Rattle.kc_trace.specs.Signals.{same_signal}

pub record Life : Type 0 where
  -- the level of each signal before state 0
  pub start : Signal → Level
  -- what happens, in the order in which it is seen
  pub events : List Event
  -- the last state
  pub last : ℕ

-- ---- levels

-- the level that a signal takes, or keeps
abbrev pub moved_by : Signal → Level → What → Level
moved_by signal before (Edge other level) = if same_signal signal other then level else before
moved_by signal before _ = before

abbrev pub level_after : Signal → Level → List What → Level
level_after signal before whats = fold (moved_by signal) before whats

-- the level of a signal at the end of a state
abbrev pub level_at : Life → Signal → ℕ → Level
level_at life signal t = level_after signal (life.start signal) (map (λ e. e.what) (up_to (λ e. e.at) t life.events))

-- ---- order

-- each in a state no earlier than the one before it
unfoldable pub IsOrderedFrom : ℕ → List Event → Type 0
IsOrderedFrom before [] = Unit {0}
IsOrderedFrom before (e ∷ events) = (before ≤ e.at) × IsOrderedFrom e.at events

-- none behind the last state
unfoldable pub IsUpTo : ℕ → List Event → Type 0
IsUpTo last [] = Unit {0}
IsUpTo last (e ∷ events) = (e.at ≤ last) × IsUpTo last events

pub record IsLife (life : Life) : Type 0 where
  pub order : IsOrderedFrom 0 life.events
  pub within : IsUpTo life.last life.events
  pub short : life.last ≤ max_states

-- ---- states: a life, one state at a time

-- what happens in a state, in its order
pub record State : Type 0 where
  pub at : ℕ
  pub whats : List What

abbrev pub events_in : ℕ → List What → List Event
events_in t whats = map (λ w. record { at = t; what = w }) whats

abbrev pub events_of : List State → List Event
events_of states = flat_map (λ s. events_in s.at s.whats) states

-- each state behind the one before it, and no earlier than this one
unfoldable pub AreStatesFrom : ℕ → List State → Type 0
AreStatesFrom first [] = Unit {0}
AreStatesFrom first (s ∷ states) = (first ≤ s.at) × AreStatesFrom (s.at + 1) states

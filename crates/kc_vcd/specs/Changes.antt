-- What changes in a run, by its steps, on one axis of time: the states of each life stand behind those of the life before it (this
-- kit's own).
use Rattle.std.specs.Prelude.{ℕ, ◌+◌, ◌-◌, ◌^◌, min, nat_lt, if◌then◌else◌, Bool, true, false, List, [], ◌∷◌, ◌++◌, map, filter, flat_map}
use Rattle.kc_base.specs.declared.types.Level.{Level}
use Rattle.kc_base.specs.Series.{up_to}
use Rattle.kc_trace.specs.declared.life.Signal.{Signal}
use Rattle.kc_trace.specs.declared.life.What.{What}
use Rattle.kc_trace.specs.declared.life.What.TheVariants as what
use Rattle.kc_convert.specs.declared.sample.Sample.{Sample}
use Rattle.kc_events.specs.Grammar.{same_level}
use Rattle.kc_events.specs.Lives.{levels_after}
use Rattle.kc_events.specs.Steps.{Seen, Begins, Passes, Ends}
use Rattle.kc_vcd.specs.declared.change.Change.{Change}
use Rattle.kc_vcd.specs.declared.change.Change.TheVariants.{Moves, Takes, Happens, Unseen}
use Rattle.kc_vcd.specs.declared.variable.Variable.{Variable}
use Rattle.kc_vcd.specs.declared.variable.Variable.TheVariants as variable

-- what changes, in a state of the run
pub record Timed : Type 0 where
  pub at : ℕ
  pub change : Change

-- ---- times: states of the run, up to the last number of 64 bits (no run has as many)

abbrev pub later : ℕ → ℕ → ℕ
later base t = min (base + t) (2 ^ 64 - 1)

-- the state behind those of a life, by its last one
abbrev pub behind : ℕ → ℕ → ℕ
behind base last = later (later base last) 1

-- ---- what steps change

-- resets and powerdown have no variable: the life that begins behind a reset has one
abbrev pub change_by : What → Change
change_by (what.Edge signal level) = Moves signal level
change_by (what.Entry number) = Happens (variable.Entry number)
change_by (what.Transfer number) = Happens (variable.Transfer number)
change_by what.Undefined = Happens variable.Undefined
change_by _ = Unseen

abbrev pub difference : (Signal → Level) → (Signal → Level) → Variable → List Change
difference old new (variable.Wire signal) = if same_level (old signal) (new signal) then [] else Moves signal (new signal) ∷ []
difference old new _ = []

-- the signals that a life finds at other levels than those at the end of the life before it
unfoldable pub differences : List Variable → (Signal → Level) → (Signal → Level) → List Change
differences variables old new = flat_map (difference old new) variables

-- a life begins; the first one of a run is no event
abbrev pub beginning : Bool → List Change
beginning true = []
beginning false = Happens variable.Life ∷ []

abbrev pub all_at : ℕ → List Change → List Timed
all_at t changes = map (λ c. record { at = t; change = c }) changes

-- the changes by steps: whether the next life is the first, the state of the run in which the present one began, and the levels at
-- the end of the last state
unfoldable pub changes_by : List Variable → Bool → ℕ → (Signal → Level) → List Seen → List Timed
changes_by variables first base levels [] = []
changes_by variables first base levels (Begins new ∷ steps) =
    all_at base (beginning first ++ differences variables levels new) ++ changes_by variables false base new steps
changes_by variables first base levels (Passes state ∷ steps) =
    all_at (later base state.at) (map change_by state.whats) ++ changes_by variables first base (levels_after levels state.whats) steps
changes_by variables first base levels (Ends last ∷ steps) = changes_by variables first (behind base last) levels steps

-- how many states steps have
unfoldable pub end_by : ℕ → List Seen → ℕ
end_by base [] = base
end_by base (Ends last ∷ steps) = end_by (behind base last) steps
end_by base (step ∷ steps) = end_by base steps

-- ---- with the values of the analogue inputs, each before what else changes in its state

abbrev pub taken : List Sample → List Timed
taken samples = map (λ s. record { at = s.at; change = Takes s.channel s.value }) samples

-- the values before a state
abbrev pub before : ℕ → List Sample → List Sample
before t samples = filter (λ s. nat_lt s.at t) samples

-- the values behind a state
abbrev pub after : ℕ → List Sample → List Sample
after t samples = filter (λ s. nat_lt t s.at) samples

-- up to the end of the run
unfoldable pub with_values : List Sample → ℕ → List Timed → List Timed
with_values samples end [] = taken (before end samples)
with_values samples end (c ∷ changes) = taken (up_to (λ s. s.at) c.at samples) ++ c ∷ with_values (after c.at samples) end changes

-- What a reader of a dump knows of what changes in it (this kit's own).
use Rattle.std.specs.Prelude.{◌≡◌, ℕ, ◌*◌, ◌^◌, ◌<◌, ◌≤◌, ◌==◌, if◌then◌else◌, Bool, true, false, Some, ◌⊎◌, List, [], ◌∷◌, filter, length, map}
use Rattle.kc_base.specs.Series.{up_to}
use Rattle.kc_base.specs.declared.types.Level.{Level}
use Rattle.kc_trace.specs.declared.life.Signal.{Signal}
use Rattle.kc_trace.specs.Signals.{same_signal, is_signal}
use Rattle.kc_events.specs.Steps.{Seen}
use Rattle.kc_vcd.specs.declared.change.Change.{Change}
use Rattle.kc_vcd.specs.declared.change.Change.TheVariants.{Moves, Takes, Happens, Unseen}
use Rattle.kc_vcd.specs.declared.variable.Variable.{Variable}
use Rattle.kc_vcd.specs.declared.variable.Variable.TheVariants.{Wire, Analog, Entry, Transfer}
use Rattle.kc_base.specs.Limits.{entry_count, transfer_count}
use Rattle.kc_convert.specs.Samples.{channel_count}
use Rattle.kc_vcd.specs.Variables.{name_of, number_of}
use Rattle.kc_vcd.specs.Changes.{Timed, changes_by, end_by}
use Rattle.kc_vcd.specs.Dump.{Shown, timed_to, dump_of}
use Rattle.kc_vcd.specs.Reader.{level_described, value_described, count_described}

-- ---- what a dump may have

-- a variable: a pin that is printed, an input, an analogue input, or what happens
abbrev pub IsKnown : Variable → Type 0
IsKnown (Wire signal) = is_signal signal ≡ true
IsKnown (Analog channel) = channel < channel_count
IsKnown (Entry number) = number < entry_count
IsKnown (Transfer number) = number < transfer_count
IsKnown _ = Unit {0}

-- the numbers of what happens are those behind the analogue inputs
abbrev pub IsEvent : Variable → Type 0
IsEvent v = 57 ≤ number_of v

abbrev pub AllKnown : List Variable → Type 0
AllKnown [] = Unit {0}
AllKnown (v ∷ vs) = IsKnown v × AllKnown vs

abbrev pub Member : Variable → List Variable → Type 0
Member v [] = ⊥
Member v (w ∷ ws) = (w ≡ v) ⊎ Member v ws

-- a change of one; a value has ten bits
abbrev pub IsKnownChange : Change → Type 0
IsKnownChange (Moves signal level) = IsKnown (Wire signal)
IsKnownChange (Takes channel value) = IsKnown (Analog channel) × (value ≤ 1023)
IsKnownChange (Happens v) = IsKnown v × IsEvent v
IsKnownChange Unseen = Unit {0}

-- changes in states that a run may have
abbrev pub AreKnown : List Timed → Type 0
AreKnown [] = Unit {0}
AreKnown (c ∷ changes) = (c.at < 2 ^ 64) × IsKnownChange c.change × AreKnown changes

-- all that changes in the dump of steps, in its order
abbrev pub changes_of : Shown → List Seen → List Timed
changes_of shown steps = timed_to shown.samples (end_by 0 steps) (changes_by shown.variables true 0 shown.start steps)

-- variables and changes are such, and an oscillator has 1 to 2 * 10^12 hertz
pub record IsSound (shown : Shown) (steps : List Seen) : Type 0 where
  pub variables : AllKnown shown.variables
  pub changes : AreKnown (changes_of shown steps)
  pub goes : 1 ≤ shown.length
  pub slow : shown.length ≤ 2000000000000

-- ---- what changes say

-- those up to a state
abbrev pub changes_to : ℕ → List Timed → List Change
changes_to t changes = map (λ c. c.change) (up_to (λ c. c.at) t changes)

-- those in a state
abbrev pub changes_in : ℕ → List Timed → List Change
changes_in t changes = map (λ c. c.change) (filter (λ c. c.at == t) changes)

-- the level that a signal took last, else the one before
abbrev pub level_behind : Signal → Level → List Change → Level
level_behind signal before [] = before
level_behind signal before (Moves other level ∷ changes) = level_behind signal (if same_signal signal other then level else before) changes
level_behind signal before (c ∷ changes) = level_behind signal before changes

-- the value that an analogue input took last, else the one before
abbrev pub value_behind : ℕ → ℕ → List Change → ℕ
value_behind channel before [] = before
value_behind channel before (Takes other value ∷ changes) = value_behind channel (if other == channel then value else before) changes
value_behind channel before (c ∷ changes) = value_behind channel before changes

abbrev pub is_happening : Variable → Change → Bool
is_happening event (Happens v) = number_of v == number_of event
is_happening event _ = false

-- how often an event is among changes
abbrev pub count_among : Variable → List Change → ℕ
count_among event changes = length (filter (is_happening event) changes)

-- ---- what a reader knows of a variable of the dump, at the time of a state

pub record DumpsShowChanges : Type 0 where
  -- the level that a signal took last up to there, else that before state 0
  pub levels : (shown : Shown) (steps : List Seen) (signal : Signal) (t : ℕ) → IsSound shown steps → Member (Wire signal) shown.variables →
      level_described (dump_of shown steps) (shown.length * t) (name_of (Wire signal)) ≡ Some (level_behind signal (shown.start signal) (changes_to t (changes_of shown steps)))
  -- the value that an analogue input took last up to there, else 0
  pub values : (shown : Shown) (steps : List Seen) (channel t : ℕ) → IsSound shown steps → Member (Analog channel) shown.variables →
      value_described (dump_of shown steps) (shown.length * t) (name_of (Analog channel)) ≡ Some (value_behind channel 0 (changes_to t (changes_of shown steps)))
  -- how often an event happens there
  pub events : (shown : Shown) (steps : List Seen) (event : Variable) (t : ℕ) → IsSound shown steps → IsEvent event → Member event shown.variables →
      count_described (dump_of shown steps) (shown.length * t) (name_of event) ≡ Some (count_among event (changes_in t (changes_of shown steps)))

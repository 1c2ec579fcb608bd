-- What happens in the lives of a run, by the lines of its trace and by what drives its inputs (this kit's own; the pins are those
-- of the 80C196KC User's Manual, "Pin Descriptions").
--
-- In each state inputs take their levels first, in the order of their pins: a wired one that of its output at the end of the state
-- before, another one that of the stimuli, which count the states of the run. Then comes what is printed, in its order, and in the
-- last state of a life what has ended it, where that is no undefined use, which has a line of its own.
use Rattle.std.specs.Prelude.{ℕ, zero, suc, ◌+◌, ◌==◌, if◌then◌else◌, Bool, Option, Some, None, List, [], ◌∷◌, ◌++◌, map, filter, flat_map}
use Rattle.std.specs.List.{range_with_len}
use Rattle.kc_base.specs.declared.types.Level.{Level}
use Rattle.kc_base.specs.declared.types.Level.TheVariants.{Low}
use Rattle.kc_base.specs.Pins.{pin_count}
use Rattle.kc_trace.specs.declared.life.Signal.{Signal}
use Rattle.kc_trace.specs.declared.life.Signal.TheVariants.{Output, Input}
use Rattle.kc_trace.specs.declared.life.What.{What}
use Rattle.kc_trace.specs.declared.life.What.TheVariants.{Edge, Entry, Transfer, Undefined, Reset, Watchdog, Powerdown}
use Rattle.kc_trace.specs.declared.life.Event.{Event}
use Rattle.kc_base.specs.Pins.{is_input}
use Rattle.kc_trace.specs.Signals.{start_level}
use Rattle.kc_trace.specs.Lives.{Life, State, level_after, events_of}
use Rattle.kc_stim.specs.Drives.{Drives, wire_to, level_at, level_before}
use Rattle.kc_trace.specs.declared.record.Record.{Record}
use Rattle.kc_trace.specs.declared.record.Record.TheVariants.{Pin, Entered, Served, Undef, Stopped}
use Rattle.kc_events.specs.declared.line.Line.{Line}
use Rattle.kc_events.specs.declared.line.Line.TheVariants.{Printed, Restarted}
use Rattle.kc_events.specs.Grammar.{same_level}

-- ---- inputs

-- the level of an input in a state of the run, by the levels at the end of the state before it
abbrev pub input_level : Drives → (Signal → Level) → ℕ → ℕ → Option ℕ → Level
input_level d levels t pin (Some output) = levels (Output (record { 0 = output }))
input_level d levels t pin None = level_at d.stimuli pin t

-- and in the state before it
abbrev pub input_before : Drives → (Signal → Level) → ℕ → ℕ → Option ℕ → Level
input_before d levels t pin (Some output) = levels (Input (record { 0 = pin }))
input_before d levels t pin None = level_before d.stimuli pin t

abbrev pub edge_between : ℕ → Level → Level → List What
edge_between pin before level = if same_level before level then [] else Edge (Input (record { 0 = pin })) level ∷ []

abbrev pub input_edge : Drives → (Signal → Level) → ℕ → ℕ → List What
input_edge d levels t pin = edge_between pin (input_before d levels t pin (wire_to d.wires pin)) (input_level d levels t pin (wire_to d.wires pin))

abbrev pub edge_if_input : Drives → (Signal → Level) → ℕ → ℕ → List What
edge_if_input d levels t pin = if is_input pin then input_edge d levels t pin else []

-- the edges of inputs in a state of the run
unfoldable pub input_edges : Drives → (Signal → Level) → ℕ → List What
input_edges d levels t = flat_map (edge_if_input d levels t) (range_with_len 0 pin_count)

-- before state 0 of a life: a wired input is low, another one has the level that it had in the state of the run before it
abbrev pub start_by : Drives → ℕ → ℕ → Option ℕ → Level
start_by d base pin (Some output) = Low
start_by d base pin None = level_before d.stimuli pin base

abbrev pub start_levels : Drives → ℕ → Signal → Level
start_levels d base (Output pin) = start_level (Output pin)
start_levels d base (Input pin) = if is_input pin.0 then start_by d base pin.0 (wire_to d.wires pin.0) else Low

-- ---- the states of a life

abbrev pub levels_after : (Signal → Level) → List What → Signal → Level
levels_after levels whats signal = level_after signal (levels signal) whats

-- what is known of a state
abbrev pub reported_in : ℕ → List Event → List What
reported_in t reported = map (λ e. e.what) (filter (λ e. e.at == t) reported)

-- so many states from one on, where the life began in this state of the run: the levels are those at the end of the state before
unfoldable pub states_from : Drives → ℕ → List Event → ℕ → ℕ → (Signal → Level) → List State
states_from d base reported zero t levels = []
states_from d base reported (suc more) t levels =
    let whats = input_edges d levels (base + t) ++ reported_in t reported in
    record { at = t; whats = whats } ∷ states_from d base reported more (t + 1) (levels_after levels whats)

-- a life of so many states; one of none is no life
abbrev pub life_of : Drives → ℕ → List Event → ℕ → List Life
life_of d base reported zero = []
life_of d base reported (suc last) = record {
  start = start_levels d base;
  events = events_of (states_from d base reported (suc last) 0 (start_levels d base));
  last = last;
} ∷ []

-- ---- what lines report

abbrev pub event_of : Record → List Event
event_of (Pin at edge) = record { at = at; what = Edge (Output edge.pin) edge.level } ∷ []
event_of (Entered at vector back) = record { at = at; what = Entry vector } ∷ []
event_of (Served at vector mode count) = record { at = at; what = Transfer vector } ∷ []
event_of (Undef what) = record { at = what.at; what = Undefined } ∷ []
event_of _ = []

-- what ends a run, and of how many states its last life is
abbrev pub end_event : ℕ → ℕ → List Event
end_event at (suc zero) = record { at = at; what = Powerdown } ∷ []
end_event at (suc (suc zero)) = record { at = at; what = Reset } ∷ []
end_event at _ = []

abbrev pub count_at : ℕ → ℕ → ℕ
count_at at zero = at
count_at at (suc how) = at + 1

abbrev pub restart_event : ℕ → Bool → Event
restart_event at by_watchdog = record { at = at; what = if by_watchdog then Watchdog else Reset }

-- the lives of lines, where the first began in this state of the run, and this was known of it before
unfoldable pub lives_with : Drives → ℕ → List Event → List Line → List Life
lives_with d base reported [] = []
lives_with d base reported (Printed (Stopped at how) ∷ lines) = life_of d base (reported ++ end_event at how) (count_at at how)
lives_with d base reported (Printed item ∷ lines) = lives_with d base (reported ++ event_of item) lines
lives_with d base reported (Restarted at by_watchdog ∷ lines) =
    life_of d base (reported ++ restart_event at by_watchdog ∷ []) (at + 1) ++ lives_with d (base + at + 1) [] lines

-- the lives of a trace
abbrev pub lives_of : Drives → List Line → List Life
lives_of d lines = lives_with d 0 [] lines

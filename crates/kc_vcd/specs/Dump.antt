-- A run as a value change dump (IEEE 1364, "Value change dump files"; what it shows and how it is called is this kit's own).
use Rattle.std.specs.Prelude.{ℕ, true, ◌+◌, ◌*◌, ◌/◌, ◌%◌, ◌^◌, ◌==◌, if◌then◌else◌, List, [], ◌∷◌, ◌++◌, codes, decimal, flat_map, map}
use Rattle.kc_base.specs.declared.types.Level.{Level}
use Rattle.kc_trace.specs.declared.life.Signal.{Signal}
use Rattle.kc_stim.specs.Drives.{Drives}
use Rattle.kc_convert.specs.declared.sample.Sample.{Sample}
use Rattle.kc_trace.specs.Text.{level_digit}
use Rattle.kc_events.specs.Lives.{start_levels}
use Rattle.kc_events.specs.Steps.{Seen}
use Rattle.kc_vcd.specs.declared.variable.Variable.{Variable}
use Rattle.kc_vcd.specs.declared.variable.Variable.TheVariants.{Wire, Analog}
use Rattle.kc_vcd.specs.Variables.{variables_of, name_of, code_of}
use Rattle.kc_vcd.specs.declared.change.Change.{Change}
use Rattle.kc_vcd.specs.declared.change.Change.TheVariants.{Moves, Takes, Happens, Unseen}
use Rattle.kc_vcd.specs.Changes.{Timed, changes_by, end_by, with_values}

-- what a dump shows: its variables, the levels before state 0, the values of the analogue inputs, and how many picoseconds a state
-- time has
pub record Shown : Type 0 where
  pub variables : List Variable
  pub start : Signal → Level
  pub samples : List Sample
  pub length : ℕ

-- two periods of an oscillator of so many hertz, rounded down
abbrev pub state_length : ℕ → ℕ
state_length clock = 2000000000000 / clock

-- what it shows of a run whose inputs are driven so
abbrev pub shown_of : ℕ → Drives → List Sample → Shown
shown_of clock drives samples = record {
  variables = variables_of drives samples;
  start = start_levels drives 0;
  samples = samples;
  length = state_length clock;
}

-- ---- declarations

abbrev pub type_of : Variable → List ℕ
type_of (Wire signal) = codes "wire 1 "
type_of (Analog channel) = codes "wire 10 "
type_of _ = codes "event 1 "

abbrev pub declaration : Variable → List ℕ
declaration v = codes "$var " ++ type_of v ++ code_of v ∷ codes " " ++ name_of v ++ codes " $end\n"

unfoldable pub declarations : List Variable → List ℕ
declarations variables = flat_map declaration variables

-- ---- changes

abbrev pub level_line : Signal → Level → List ℕ
level_line signal level = level_digit level ∷ code_of (Wire signal) ∷ 10 ∷ []

-- the ten binary digits of a value, the highest first
abbrev pub digits : ℕ → List ℕ
digits value = map (λ k. 48 + value / 2 ^ k % 2) (9 ∷ 8 ∷ 7 ∷ 6 ∷ 5 ∷ 4 ∷ 3 ∷ 2 ∷ 1 ∷ 0 ∷ [])

-- without zeros in front, but for the last digit
unfoldable pub significant : List ℕ → List ℕ
significant (d ∷ e ∷ more) = if d == 48 then significant (e ∷ more) else d ∷ e ∷ more
significant ds = ds

abbrev pub value_line : ℕ → ℕ → List ℕ
value_line channel value = codes "b" ++ significant (digits value) ++ codes " " ++ code_of (Analog channel) ∷ 10 ∷ []

abbrev pub change_text : Change → List ℕ
change_text (Moves signal level) = level_line signal level
change_text (Takes channel value) = value_line channel value
change_text (Happens v) = codes "1" ++ code_of v ∷ 10 ∷ []
change_text Unseen = []

-- the time, where it is another one than before
abbrev pub stamp : ℕ → ℕ → ℕ → List ℕ
stamp length before at = if at == before then [] else codes "#" ++ decimal (length * at) ++ codes "\n"

-- changes behind a state, in the order of their states
unfoldable pub texts : ℕ → ℕ → List Timed → List ℕ
texts length before [] = []
texts length before (c ∷ changes) = stamp length before c.at ++ change_text c.change ++ texts length c.at changes

-- ---- the whole

abbrev pub start_line : (Signal → Level) → Variable → List ℕ
start_line start (Wire signal) = level_line signal (start signal)
start_line start (Analog channel) = value_line channel 0
start_line start _ = []

unfoldable pub start_lines : (Signal → Level) → List Variable → List ℕ
start_lines start variables = flat_map (start_line start) variables

abbrev pub head : List ℕ
head = codes "$timescale 1 ps $end\n" ++ codes "$scope module board $end\n"

abbrev pub head_end : List ℕ
head_end = codes "$upscope $end\n" ++ codes "$enddefinitions $end\n" ++ codes "#0\n" ++ codes "$dumpvars\n"

-- the declarations, and the levels before state 0
abbrev pub prefix : Shown → List ℕ
prefix shown = head ++ declarations shown.variables ++ head_end ++ start_lines shown.start shown.variables ++ codes "$end\n"

-- what changes, with the values between, and last the time at which the run is over
abbrev pub timed_to : List Sample → ℕ → List Timed → List Timed
timed_to samples end changes = with_values samples end changes ++ record { at = end; change = Unseen } ∷ []

abbrev pub dump_of : Shown → List Seen → List ℕ
dump_of shown steps =
    prefix shown ++ texts shown.length 0 (timed_to shown.samples (end_by 0 steps) (changes_by shown.variables true 0 shown.start steps))

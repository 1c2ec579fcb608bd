-- What a dump says of the lives of a run (this kit's own).
use Rattle.std.specs.Prelude.{◌≡◌, ℕ, ◌+◌, ◌*◌, ◌<◌, ◌≤◌, ◌==◌, Some, true, Bool, false, ◌&&◌, List, filter, length, slice_get, sum, map, take}
use Rattle.kc_base.specs.Limits.{entry_count, transfer_count}
use Rattle.kc_base.specs.Pins.{is_printed}
use Rattle.kc_trace.specs.declared.life.Signal.{Signal}
use Rattle.kc_trace.specs.declared.life.Signal.TheVariants.{Output, Input}
use Rattle.kc_trace.specs.declared.life.What.{What}
use Rattle.kc_trace.specs.declared.life.What.TheVariants as what
use Rattle.kc_trace.specs.Lives.{Life, level_at}
use Rattle.kc_stim.specs.Drives.{Drives}
use Rattle.kc_convert.specs.declared.sample.Sample.{Sample}
use Rattle.kc_convert.specs.Samples.{channel_count, value_at, AreOfFile}
use Rattle.kc_events.specs.declared.line.Line.{Line}
use Rattle.kc_events.specs.Grammar.{start_place, IsRun}
use Rattle.kc_events.specs.Lives.{lives_of}
use Rattle.kc_events.specs.Steps.{steps_of}
use Rattle.kc_vcd.specs.declared.variable.Variable.TheVariants.{Analog, Entry, Transfer}
use Rattle.kc_vcd.specs.Variables.{is_shown_input, has_value, signal_name, name_of}
use Rattle.kc_vcd.specs.Dump.{state_length, shown_of, dump_of}
use Rattle.kc_vcd.specs.Reader.{level_described, value_described, count_described}

-- ---- a run, and its dump

-- the lines of a trace, what drives the inputs of its run, the values of the analogue inputs, and how many hertz the oscillator has
pub record Run : Type 0 where
  pub lines : List Line
  pub drives : Drives
  pub samples : List Sample
  pub clock : ℕ

-- a whole run, values as files give them, and an oscillator of 1 to 2 * 10^12 hertz
pub record IsShownRun (run : Run) : Type 0 where
  pub whole : IsRun (start_place 0) run.lines
  pub values : AreOfFile run.samples
  pub goes : 1 ≤ run.clock
  pub slow : run.clock ≤ 2000000000000

abbrev pub dump_for : Run → List ℕ
dump_for run = dump_of (shown_of run.clock run.drives run.samples) (steps_of run.drives run.lines)

abbrev pub lives_in : Run → List Life
lives_in run = lives_of run.drives run.lines

-- the state of the run in which the life behind so many others begins
abbrev pub begin_of : ℕ → List Life → ℕ
begin_of count lives = sum (map (λ life. life.last + 1) (take count lives))

-- the life behind so many others, and a state of it
pub record IsIn (count : ℕ) (life : Life) (t : ℕ) (run : Run) : Type 0 where
  pub place : slice_get (lives_in run) count ≡ Some life
  pub state : t ≤ life.last

-- when that state begins, in picoseconds
abbrev pub time_of : ℕ → ℕ → Run → ℕ
time_of count t run = state_length run.clock * (begin_of count (lives_in run) + t)

-- ---- levels

-- a pin that is printed, or an input that is driven
abbrev pub is_shown : Drives → Signal → Bool
is_shown d (Output pin) = is_printed pin.0
is_shown d (Input pin) = is_shown_input d pin.0

-- in each state of each life a dump has for each printed pin and for each input that is driven its level
abbrev pub DumpsShowLevels : Type 0
DumpsShowLevels = (run : Run) (count t : ℕ) (life : Life) (signal : Signal) → IsShownRun run → IsIn count life t run → is_shown run.drives signal ≡ true →
    level_described (dump_for run) (time_of count t run) (signal_name signal) ≡ Some (level_at life signal t)

-- ---- values

-- and for each analogue input that has values the one that it has
abbrev pub DumpsShowValues : Type 0
DumpsShowValues = (run : Run) (count t channel : ℕ) (life : Life) → IsShownRun run → IsIn count life t run → channel < channel_count → has_value run.samples channel ≡ true →
    value_described (dump_for run) (time_of count t run) (name_of (Analog channel)) ≡ Some (value_at run.samples channel (begin_of count (lives_in run) + t))

-- ---- events

abbrev pub is_entry : ℕ → What → Bool
is_entry number (what.Entry n) = n == number
is_entry number _ = false

abbrev pub is_transfer : ℕ → What → Bool
is_transfer number (what.Transfer n) = n == number
is_transfer number _ = false

-- how often something happens in a state of a life
abbrev pub count_in : (What → Bool) → ℕ → Life → ℕ
count_in is_wanted t life = length (filter (λ e. (e.at == t) && is_wanted e.what) life.events)

-- at each state the event of a vector happens as often as the board enters there, and so for the transfer server
pub record DumpsShowEvents : Type 0 where
  pub entries : (run : Run) (count t number : ℕ) (life : Life) → IsShownRun run → IsIn count life t run → number < entry_count →
      count_described (dump_for run) (time_of count t run) (name_of (Entry number)) ≡ Some (count_in (is_entry number) t life)
  pub transfers : (run : Run) (count t number : ℕ) (life : Life) → IsShownRun run → IsIn count life t run → number < transfer_count →
      count_described (dump_for run) (time_of count t run) (name_of (Transfer number)) ≡ Some (count_in (is_transfer number) t life)

-- The command that writes a run as a value change dump (this kit's own). What drives the inputs is read whole; the trace comes last, and
-- is read once, line by line, whatever its length.
use Rattle.std.specs.Prelude.{◌≡◌, ℕ, List, [], ◌∷◌, length, drop, Option, Result}
use Rattle.std.specs.Result.{IsOk}
use Rattle.kc_events.specs.declared.line.Line.{Line}
use Rattle.kc_events.specs.Steps.{steps_of}
use Rattle.kc_vcd.specs.Dump.{shown_of, dump_of}
use Rattle.kc_kit_files.specs.Reads.{reads_of}
use Rattle.kc_kit_files.specs.Response.{Response, write, done_writing, Then}
use Rattle.kc_kit_words.specs.declared.inputs.Role.{Role}
use Rattle.kc_kit_words.specs.Commands.{names_of}
use Rattle.kc_kit_inputs.specs.declared.driving.Driving.{Driving}
use Rattle.kc_kit_inputs.specs.Driving.{given_for, driving_of}
use Rattle.kc_kit_inputs.specs.Runs.{RunIs, IsRunText}
use Rattle.kc_kit_answer.specs.Accepting.{Accepting}
use Rattle.kc_kit_answer.specs.Check.{TraceThen, IsTraceHeld}

-- ---- what is answered of a run

-- the dump of the run of lines, of a board whose oscillator has so many hertz
abbrev pub dump_for : ℕ → Driving → List Line → List ℕ
dump_for clock driving lines = dump_of (shown_of clock driving.stimuli driving.values) (steps_of driving.stimuli lines)

-- it is written
abbrev pub WritesDump : List ℕ → ℕ → Driving → List Line → Response → Type 0
WritesDump out clock driving lines response = response ≡ done_writing (write out (dump_for clock driving lines) ∷ [])

-- ---- what is answered to files

-- the run whose trace is a text, with what drives its inputs
abbrev pub Dumped : List ℕ → List ℕ → ℕ → List ℕ → Driving → Response → Type 0
Dumped trace out clock printed driving response =
    (run : Result (List Line) Response) × RunIs trace printed run × Then run (WritesDump out clock driving) response

-- the stimuli are checked first, then the analogue file, and the trace last
abbrev pub DumpAnswer : List ℕ → List (Role × List ℕ) → List ℕ → ℕ → List ℕ → List (List ℕ) → Response → Type 0
DumpAnswer trace inputs out clock printed texts response = Then (driving_of (given_for inputs texts)) (Dumped trace out clock printed) response

-- The inputs are read before the trace is opened, and all files are there before any is checked.
abbrev pub DumpFiles : List ℕ → List (Role × List ℕ) → List ℕ → ℕ → List (Option (List ℕ)) → Response → Type 0
DumpFiles trace inputs out clock contents response =
    Then (reads_of (names_of inputs) contents)
    (λ texts. TraceThen trace (λ printed. DumpAnswer trace inputs out clock printed texts) (drop (length (names_of inputs)) contents)) response

-- ---- what is accepted: stimuli, analogue values, and the trace of a run

abbrev pub IsDumpable : List (Role × List ℕ) → List ℕ → List (List ℕ) → Type 0
IsDumpable inputs printed texts = IsOk (driving_of (given_for inputs texts)) × ((lines : List Line) × IsRunText printed lines)

abbrev pub DumpAccepted : List ℕ → List (Role × List ℕ) → List (Option (List ℕ)) → Type 0
DumpAccepted trace inputs contents =
    Accepting (λ texts. IsTraceHeld trace (λ printed. IsDumpable inputs printed texts) (drop (length (names_of inputs)) contents))
    (reads_of (names_of inputs) contents)

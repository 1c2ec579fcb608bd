-- What is read of the text of a trace (this kit's own).
use Rattle.std.specs.Prelude.{◌≡◌, ℕ, Result, Ok, Err, List, [], map, All}
use Rattle.kc_base.specs.TextLines.{text_lines}
use Rattle.kc_events.specs.declared.line.Line.{Line}
use Rattle.kc_events.specs.Lines.{line_text, trace_text}
use Rattle.kc_base.specs.declared.types.Level.{Level}
use Rattle.kc_trace.specs.declared.life.Signal.{Signal}
use Rattle.kc_trace.specs.Lives.{IsLife}
use Rattle.kc_stim.specs.Drives.{Drives}
use Rattle.kc_events.specs.Grammar.{AreLines, IsRun, start_place}
use Rattle.kc_events.specs.Lives.{lives_of}
use Rattle.kc_events.specs.Reporting.{IsFirstWrong}
use Rattle.kc_events.specs.Steps.{steps_of, lives_seen}

-- the lines of the text that the board prints are those of the lines that were printed
abbrev pub TracesAreRead : Type 0
TracesAreRead = (lines : List Line) → AreLines (start_place 0) lines → text_lines (trace_text lines) ≡ map line_text lines

-- texts are those of one list of lines at most
abbrev pub OneTrace : Type 0
OneTrace = (lines others : List Line) → AreLines (start_place 0) lines → AreLines (start_place 0) others → map line_text lines ≡ map line_text others → lines ≡ others

-- a text is read as the lines of a whole run, or as the number of its first line that no board prints there
abbrev pub IsReadAs : List ℕ → Result (List Line) ℕ → Type 0
IsReadAs text (Ok lines) = (text_lines text ≡ map line_text lines) × IsRun (start_place 0) lines
IsReadAs text (Err line) = IsFirstWrong (start_place 0) text 0 line

-- in one way at most
abbrev pub OneReading : Type 0
OneReading = (text : List ℕ) (read other : Result (List Line) ℕ) → IsReadAs text read → IsReadAs text other → read ≡ other

-- the steps of a run make up its lives
abbrev pub StepsMakeLives : Type 0
StepsMakeLives = (d : Drives) (lines : List Line) (start : Signal → Level) → lives_seen start [] (steps_of d lines) ≡ lives_of d lines

-- the lives of lines that the board prints stand in the order of states, and are no longer than a run may last
abbrev pub LivesAreLives : Type 0
LivesAreLives = (d : Drives) (lines : List Line) → AreLines (start_place 0) lines → All IsLife (lives_of d lines)

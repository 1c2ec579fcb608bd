-- Traces of whole runs, which are read line by line and not kept (this kit's own).
use Rattle.std.specs.Prelude.{◌≡◌, ℕ, List, codes, map, Result, Ok, Err}
use Rattle.kc_base.specs.TextLines.{text_lines}
use Rattle.kc_events.specs.declared.line.Line.{Line}
use Rattle.kc_events.specs.Grammar.{start_place, IsRun}
use Rattle.kc_events.specs.Lines.{line_text}
use Rattle.kc_events.specs.Reporting.{IsFirstWrong}
use Rattle.kc_kit_files.specs.Response.{Response}
use Rattle.kc_kit_inputs.specs.Responses.{unkept_response}

-- the text is that of the lines of a run
pub record IsRunText (text : List ℕ) (lines : List Line) : Type 0 where
  pub spelled : text_lines text ≡ map line_text lines
  pub run : IsRun (start_place 0) lines

-- the lines of a run, or the response to the first line with which a text is none
abbrev pub RunIs : List ℕ → List ℕ → Result (List Line) Response → Type 0
RunIs name text (Ok lines) = IsRunText text lines
RunIs name text (Err response) = (line : ℕ) × IsFirstWrong (start_place 0) text 0 line × (response ≡ unkept_response name line (codes "BADTRACE"))

-- Analogue files, and the values of the analogue inputs (this kit's own).
use Rattle.std.specs.Prelude.{ℕ, List, [], codes, fold, Option, Some, None, Result, Ok, Err}
use Rattle.kc_convert.specs.declared.sample.Sample.{Sample}
use Rattle.kc_convert.specs.Reading.{with_item, first_bad, items_of}
use Rattle.kc_kit_files.specs.Response.{Response}
use Rattle.kc_kit_inputs.specs.Responses.{line_response}

abbrev pub by_bad_line : List ℕ → List ℕ → Option ℕ → Result (List Sample) Response
by_bad_line name text None = Ok (fold with_item [] (items_of text))
by_bad_line name text (Some line) = Err (line_response name text line (codes "BADANALOG"))

-- the values of an analogue file, or the response to its first line that is at fault
abbrev pub analog_of : List ℕ → List ℕ → Result (List Sample) Response
analog_of name text = by_bad_line name text (first_bad 0 [] (items_of text))

-- the values of the analogue inputs of a run: those of its analogue file, by its name and its text, and none without one
abbrev pub values_of : Option (List ℕ × List ℕ) → Result (List Sample) Response
values_of (Some file) = analog_of file.0 file.1
values_of None = Ok []

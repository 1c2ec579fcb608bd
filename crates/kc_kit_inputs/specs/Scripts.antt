-- Debugger scripts, and the line maps beside them (this kit's own).
use Rattle.std.specs.Prelude.{ℕ, List, [], codes, Option, Some, None, Result, Ok, Err}
use Rattle.kc_debug_script.specs.declared.command.Command.{Command}
use Rattle.kc_debug_script.specs.declared.line_map.MapEntry.{MapEntry}
use Rattle.kc_debug_script.specs.LineMap as maps
use Rattle.kc_debug_script.specs.Script as scripts
use Rattle.kc_kit_files.specs.Response.{Response}
use Rattle.kc_kit_inputs.specs.Responses.{line_response}

-- what the lines of a file say, or the response to the first that says nothing, with this code
abbrev pub by_lines : {A : Type 0} → List ℕ → List ℕ → List ℕ → Result (List A) ℕ → Result (List A) Response
by_lines code name text (Ok said) = Ok said
by_lines code name text (Err line) = Err (line_response name text line code)

-- the commands of a script, or the response to its first line that is none
abbrev pub script_of : List ℕ → List ℕ → Result (List Command) Response
script_of name text = by_lines (codes "BADCOMMAND") name text (scripts.script_of text)

-- the entries of a line map, or the response to its first line that is none
abbrev pub map_of : List ℕ → List ℕ → Result (List MapEntry) Response
map_of name text = by_lines (codes "BADMAP") name text (maps.map_of text)

-- the source lines of a debugger: its line map, by its name and its text, and none without one
abbrev pub lines_of : Option (List ℕ × List ℕ) → Result (List MapEntry) Response
lines_of (Some file) = map_of file.0 file.1
lines_of None = Ok []

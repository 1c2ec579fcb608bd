-- What it means to read a text of lines, said of the whole text (this kit's own).
use Rattle.std.specs.Prelude.{◌≡◌, ℕ, ◌-◌, ◌≤◌, ◌↔◌, Option, Some, Result, Ok, Err, List, length, map, take, All}
use Rattle.kc_base.specs.TextLines.{text_lines}
use Rattle.kc_debug_script.specs.Commands.{command_of}
use Rattle.kc_debug_script.specs.Script.{script_of, IsLimited}
use Rattle.kc_debug_script.specs.LineMap.{entry_of, map_of, IsOrdered}
use Rattle.kc_debug_script.specs.declared.command.Command.{Command}
use Rattle.kc_debug_script.specs.declared.line_map.MapEntry.{MapEntry}
use Rattle.kc_debug_script.specs.Spelling.{command_text, script_text, map_text, IsCommand, IsEntry}

-- each line says one of these things, and together they keep a rule
pub record Say {A : Type 0} (meaning : List ℕ → Option A) (Keep : List A → Type 0) (lines : List (List ℕ)) (xs : List A) : Type 0 where
  pub each : map meaning lines ≡ map Some xs
  pub keep : Keep xs

-- the lines before this one say something, and with it they say nothing
pub record IsFirstWrong {A : Type 0} (meaning : List ℕ → Option A) (Keep : List A → Type 0) (lines : List (List ℕ)) (line : ℕ) : Type 0 where
  pub first : 1 ≤ line
  pub within : line ≤ length lines
  pub before : (xs : List A) × Say meaning Keep (take (line - 1) lines) xs
  pub wrong : (xs : List A) → ¬ Say meaning Keep (take line lines) xs

-- what is read of a text is what its lines say, and exactly that; a fault is reported at the first line that is wrong
pub record ReadsLines {A : Type 0} (meaning : List ℕ → Option A) (Keep : List A → Type 0) (read : List ℕ → Result (List A) ℕ) : Type 0 where
  pub all : (text : List ℕ) (xs : List A) → (read text ≡ Ok xs) ↔ Say meaning Keep (text_lines text) xs
  pub fault : (text : List ℕ) (line : ℕ) → read text ≡ Err line → IsFirstWrong meaning Keep (text_lines text) line

-- a script is commands, at most 65,535 of them, at most 16 of them breakpoints
abbrev pub ScriptsAreCommands : Type 0
ScriptsAreCommands = ReadsLines command_of IsLimited script_of

-- a line map is entries with rising addresses from 2000H on
abbrev pub MapsAreEntries : Type 0
MapsAreEntries = ReadsLines entry_of IsOrdered map_of

-- ---- what is written is read

abbrev pub CommandsAreReadBack : Type 0
CommandsAreReadBack = (c : Command) → IsCommand c → command_of (command_text c) ≡ Some c

abbrev pub ScriptsAreReadBack : Type 0
ScriptsAreReadBack = (cs : List Command) → IsLimited cs → All IsCommand cs → script_of (script_text cs) ≡ Ok cs

abbrev pub MapsAreReadBack : Type 0
MapsAreReadBack = (es : List MapEntry) → IsOrdered es → All IsEntry es → map_of (map_text es) ≡ Ok es

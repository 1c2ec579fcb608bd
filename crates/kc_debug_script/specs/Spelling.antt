-- How the commands of a script, and the entries of a line map, are written (this kit's own).
use Rattle.std.specs.Prelude.{◌≡◌, ℕ, ◌<◌, ◌≤◌, ◌^◌, true, List, ◌++◌, codes, decimal, flat_map}
use Rattle.kc_obj_module.specs.Names.{is_name}
use Rattle.kc_base.specs.Digits.{hex}
use Rattle.kc_debug_script.specs.declared.command.Command.{Command}
use Rattle.kc_debug_script.specs.declared.command.Command.TheVariants.{Step, Go, Break, Registers, Show, Write, History, Quit}
use Rattle.kc_debug_script.specs.declared.line_map.MapEntry.{MapEntry}
use Rattle.kc_debug_script.specs.Commands.{IsBounded}

-- a command, without the end of its line
abbrev pub command_text : Command → List ℕ
command_text (Step count) = codes "s " ++ decimal count
command_text (Go until) = codes "g " ++ decimal until
command_text (Break addr) = codes "b " ++ hex 4 addr
command_text Registers = codes "r"
command_text (Show from count) = codes "m " ++ hex 4 from ++ codes " " ++ decimal count
command_text (Write addr value) = codes "w " ++ hex 4 addr ++ codes " " ++ hex 2 value
command_text History = codes "l"
command_text Quit = codes "q"

abbrev pub script_text : List Command → List ℕ
script_text commands = flat_map (λ c. command_text c ++ codes "\n") commands

-- an entry, with the end of its line
abbrev pub entry_line : MapEntry → List ℕ
entry_line e = hex 4 e.addr ++ codes " " ++ e.name ++ codes " " ++ decimal e.line ++ codes "\n"

abbrev pub map_text : List MapEntry → List ℕ
map_text entries = flat_map entry_line entries

-- the addresses of a command are of 16 bits, and its byte is of eight
abbrev pub HasWidths : Command → Type 0
HasWidths (Break addr) = addr < 2 ^ 16
HasWidths (Show from count) = from < 2 ^ 16
HasWidths (Write addr value) = (addr < 2 ^ 16) × (value < 2 ^ 8)
HasWidths _ = Unit {0}

-- a command that can be asked for
pub record IsCommand (c : Command) : Type 0 where
  pub bounded : IsBounded c
  pub widths : HasWidths c

-- an entry of a line of a module
pub record IsEntry (e : MapEntry) : Type 0 where
  pub addr : e.addr < 2 ^ 16
  pub name : is_name e.name ≡ true
  pub first : 1 ≤ e.line
  pub line : e.line < 2 ^ 32

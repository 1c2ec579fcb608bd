-- A debugger script: a command a line, or the first line that is no command (this kit's own).
use Rattle.std.specs.Prelude.{◌≡◌, ℕ, ◌≤◌, nat_lt, nat_le, not, Bool, true, false, ◌&&◌, Option, Result, Ok, Err, List, [], length, count_by, All}
use Rattle.kc_base.specs.TextLines.{text_lines}
use Rattle.kc_debug_script.specs.declared.command.Command.{Command}
use Rattle.kc_debug_script.specs.declared.command.Command.TheVariants.{Break}
use Rattle.kc_debug_script.specs.declared.fault.DebugFault.{DebugFault}
use Rattle.kc_debug_script.specs.declared.fault.DebugFault.TheVariants as faults
use Rattle.kc_debug_script.specs.Fields.{if_is}
use Rattle.kc_debug_script.specs.Commands.{command_of, IsBounded}
use Rattle.kc_debug_script.specs.Reading.{said}

abbrev pub is_break : Command → Bool
is_break (Break addr) = true
is_break _ = false

-- a script has 65,535 lines at most, and 16 breakpoints
abbrev pub may_follow : List Command → Command → Bool
may_follow before command = nat_lt (length before) 65535 && not (is_break command && nat_le 16 (count_by is_break before))

-- the command of a line behind these commands
abbrev pub command_after : List Command → List ℕ → Option Command
command_after before line = if_is (may_follow before) (command_of line)

-- the commands of a script, or the number of its first line that is no command
abbrev pub script_of : List ℕ → Result (List Command) ℕ
script_of text = said command_after [] (text_lines text)

-- what a reader answers; memory may run out at any time
abbrev pub IsScriptRead : Result (List Command) DebugFault → Result (List Command) ℕ → Type 0
IsScriptRead (Ok commands) read = read ≡ Ok commands
IsScriptRead (Err (faults.BadCommand line)) read = read ≡ Err line
IsScriptRead (Err faults.NoMemory) read = Unit {0}
IsScriptRead (Err (faults.BadMap line)) read = ⊥
IsScriptRead (Err faults.WriteFault) read = ⊥

-- the limits of a script
pub record IsLimited (commands : List Command) : Type 0 where
  pub few : length commands ≤ 65535
  pub breakpoints : count_by is_break commands ≤ 16

-- what is known of the commands of a script
pub record AreBounded (commands : List Command) : Type 0 where
  pub each : All IsBounded commands
  pub limited : IsLimited commands

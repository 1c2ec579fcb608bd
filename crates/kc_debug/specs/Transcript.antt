-- What the commands of a script do to a machine, and what they print (this kit's own).
use Rattle.std.specs.Prelude.{ℕ, Bool, true, false, List, [], ◌∷◌, ◌++◌, Option, Some, None, flat_map}
use Rattle.circular_buffer.specs.Buffer.{keep_last}
use Rattle.kc_extra.specs.Further.{Further}
use Rattle.kc_trace.specs.declared.record.Record.{Record}
use Rattle.kc_trace.specs.Text.{text_of}
use Rattle.kc_machine_spec.specs.declared.doing.End.{End}
use Rattle.kc_machine_spec.specs.Machine.{Machine}
use Rattle.kc_machine_spec.specs.Run.{run_for}
use Rattle.kc_machine_spec.specs.Peeking.{poked}
use Rattle.kc_machine.specs.Stepping.{end_line, register_lines}
use Rattle.kc_debug_script.specs.declared.command.Command.{Command}
use Rattle.kc_debug_script.specs.declared.command.Command.TheVariants.{Step, Go, Break, Registers, Show, Write, History, Quit}
use Rattle.kc_debug_script.specs.declared.line_map.MapEntry.{MapEntry}
use Rattle.kc_debug.specs.declared.activities.Begun.{Begun}
use Rattle.kc_debug.specs.Activities.{begun_for, finished}
use Rattle.kc_debug.specs.Stops.{states_of_activities, states_of_run}
use Rattle.kc_debug.specs.Lines.{stand_line, activity_line, memory_lines}

-- a machine that a script has caught up so far: its breakpoints, the activities that have begun since the script began, and
-- all that was printed
pub record Debugged (X : Type 0) : Type 0 where
  pub machine : Machine X
  pub breaks : List ℕ
  pub begun : List Begun
  pub text : List ℕ

-- before the first command
abbrev pub untouched : {X : Type 0} → Machine X → Debugged X
untouched m = record { machine = m; breaks = []; begun = []; text = [] }

-- a text more
abbrev pub says : {X : Type 0} → List ℕ → Debugged X → Debugged X
says text d = record d { text = d.text ++ text }

-- how a machine has ended, if it has
abbrev pub end_lines : {X : Type 0} → Option End → Machine X → List Record
end_lines None m = []
end_lines (Some how) m = end_line how m ∷ []

-- an end is given by the command in which it comes, and by no later one
abbrev pub new_end : {X : Type 0} → Option End → Machine X → List Record
new_end None m = end_lines m.ended m
new_end (Some how) m = []

-- how many activities are reported
abbrev pub history_length : ℕ
history_length = 32

abbrev pub history : {X : Type 0} → List MapEntry → Debugged X → List ℕ
history entries d = flat_map (activity_line entries) (keep_last history_length (finished d.machine.under_way d.begun))

-- the command that ends a script
abbrev pub quits : Command → Bool
quits Quit = true
quits _ = false

module _ {X : Type 0} (f : Further X) where
  -- goes on by so many states: the lines of the trace, the end if it comes, and where the machine stands then
  abbrev pub gone_for : ℕ → Debugged X → Debugged X
  gone_for states d =
      let ran = run_for f states d.machine in
      record d {
        machine = ran.machine;
        begun = d.begun ++ begun_for f states d.machine;
        text = d.text ++ (text_of ran.records ++ (text_of (new_end d.machine.ended ran.machine) ++ stand_line ran.machine));
      }

  -- what a command does
  abbrev pub after_command : List MapEntry → Command → Debugged X → Debugged X
  after_command entries (Step count) d = gone_for (states_of_activities f count d.machine) d
  after_command entries (Go until) d = gone_for (states_of_run f d.breaks until d.machine) d
  after_command entries (Break addr) d = record d { breaks = d.breaks ++ addr ∷ [] }
  after_command entries Registers d = says (text_of (register_lines d.machine)) d
  after_command entries (Show from count) d = says (memory_lines f d.machine from count) d
  after_command entries (Write addr value) d = record d { machine = poked d.machine addr value }
  after_command entries History d = says (history entries d) d
  after_command entries Quit d = d

  -- what commands do, up to the first that ends the script
  unfoldable pub debugged : List MapEntry → List Command → Debugged X → Debugged X
  debugged entries [] d = d
  debugged entries (Quit ∷ commands) d = d
  debugged entries (command ∷ commands) d = debugged entries commands (after_command entries command d)

  -- a script over a machine, with the entries of a line map
  abbrev pub transcript : List MapEntry → List Command → Machine X → Debugged X
  transcript entries commands m = debugged entries commands (untouched m)

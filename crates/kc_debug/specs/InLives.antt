-- A script over the lives of a board: what each command does there, and what it prints (this kit's own). A command goes on in the
-- present life alone: a reset begins the next one, and the command ends there.
use Rattle.std.specs.Prelude.{ℕ, ◌+◌, ◌-◌, ◌&&◌, nat_lt, nat_le, Bool, List, [], ◌∷◌, ◌++◌, Option, Some, None, if◌then◌else◌, codes, decimal, flat_map, map}
use Rattle.std.specs.Option.{unwrap_or}
use Rattle.circular_buffer.specs.Buffer.{keep_last}
use Rattle.kc_base.specs.Limits.{max_states}
use Rattle.kc_stim.specs.Drives.{Drives, driven_from}
use Rattle.kc_extra.specs.Further.{Further}
use Rattle.kc_trace.specs.Text.{text_of, line_of}
use Rattle.kc_machine_spec.specs.declared.doing.End.{End}
use Rattle.kc_machine_spec.specs.declared.doing.End.TheVariants as end
use Rattle.kc_machine_spec.specs.Machine.{Machine, start}
use Rattle.kc_machine_spec.specs.Peeking.{poked}
use Rattle.kc_machine.specs.Stepping.{end_line, register_lines}
use Rattle.kc_cycles.specs.Life.{Life, life_for}
use Rattle.kc_cycles.specs.Lives.{is_reset, restart_line}
use Rattle.kc_debug_script.specs.declared.command.Command.{Command}
use Rattle.kc_debug_script.specs.declared.command.Command.TheVariants.{Step, Go, Break, Registers, Show, Write, History, Quit}
use Rattle.kc_debug_script.specs.declared.line_map.MapEntry.{MapEntry}
use Rattle.kc_debug_script.specs.LineMap.{entry_at}
use Rattle.kc_debug.specs.declared.activities.Begun.{Begun}
use Rattle.kc_debug.specs.Activities.{begun_for, finished}
use Rattle.kc_debug.specs.Lines.{state_fields, source_place, memory_lines}
use Rattle.kc_debug.specs.Stops.{states_of_activities, states_of_run}
use Rattle.kc_debug.specs.Transcript.{history_length}

-- The life that is debugged: its number, from 1 on, the state of what drives the inputs at which it began, its machine, and how it
-- has ended, where no other one follows it. Breakpoints stay over a reset. Then the activities that have finished in earlier lives,
-- each with the number of its life, those that have begun in this one, all that was printed, and where memory was wanted in it.
pub record InLife (X : Type 0) : Type 0 where
  pub number : ℕ
  pub from : ℕ
  pub machine : Machine X
  pub over : Option End
  pub breaks : List ℕ
  pub past : List (ℕ × Begun)
  pub begun : List Begun
  pub text : List ℕ
  pub pauses : List (List ℕ)

abbrev pub says : {X : Type 0} → List ℕ → InLife X → InLife X
says text l = record l { text = l.text ++ text }

-- where the machine stands, and in which life
abbrev pub stand_line : {X : Type 0} → ℕ → Machine X → List ℕ
stand_line number m = codes "T " ++ state_fields m.time m.cpu.pc ++ codes " " ++ decimal number ++ 10 ∷ []

-- an activity: when it began, where, and in which life, with its source line
abbrev pub activity_line : List MapEntry → ℕ × Begun → List ℕ
activity_line entries a = codes "A " ++ state_fields a.1.at a.1.pc ++ codes " " ++ decimal a.0 ++ source_place (entry_at entries a.1.pc) ++ 10 ∷ []

-- the activities that have finished in the lives so far
abbrev pub all_finished : {X : Type 0} → InLife X → List (ℕ × Begun)
all_finished l = l.past ++ map (λ b. (l.number, b)) (finished l.machine.under_way l.begun)

abbrev pub history : {X : Type 0} → List MapEntry → InLife X → List ℕ
history entries l = flat_map (activity_line entries) (keep_last history_length (all_finished l))

-- a life that was spent goes on with the next command
abbrev pub over_of : End → Option End
over_of end.Spent = None
over_of how = Some how

-- how the script has ended
abbrev pub end_in : {X : Type 0} → InLife X → End
end_in l = unwrap_or l.over end.Spent

module _ {X : Type 0} (f : Further X) (deadline : X → Option ℕ) (image : List ℕ) (drives : Drives) (unit : ℕ → X) (most : ℕ) where
  -- the machine of the life that begins at a state of what drives the inputs
  abbrev pub born : ℕ → Machine X
  born from = start image (driven_from from drives) (unit from)

  -- before the first command
  abbrev pub first_life : InLife X
  first_life = record { number = 1; from = 0; machine = born 0; over = None; breaks = []; past = []; begun = []; text = []; pauses = [] }

  -- a life that has gone on so, from this one
  abbrev pub lived : Life X → InLife X → InLife X
  lived life l = record l {
    machine = life.ran.machine;
    begun = l.begun ++ begun_for f (life.ran.machine.time - l.machine.time) l.machine;
    text = l.text ++ text_of life.ran.records;
  }

  -- a reset begins another life, while lives are left and what drives the inputs is known
  abbrev pub is_followed : Life X → InLife X → Bool
  is_followed life l = is_reset life.how && (nat_lt l.number most && nat_le (l.from + life.ran.machine.time) max_states)

  -- the line between two lives, and the next life, for which memory is wanted behind that line
  abbrev pub followed : Life X → InLife X → InLife X
  followed life l =
      let text = l.text ++ restart_line (life.ran.machine.time - 1) life.by_watchdog in
      let from = l.from + life.ran.machine.time in
      record l { number = l.number + 1; from = from; machine = born from; past = all_finished l; begun = []; text = text; pauses = l.pauses ++ text ∷ [] }

  -- the end of a life that none follows
  abbrev pub ended_as : Option End → InLife X → InLife X
  ended_as None l = l
  ended_as (Some how) l = record l { over = Some how; text = l.text ++ line_of (end_line how l.machine) }

  abbrev pub settled : Life X → InLife X → InLife X
  settled life l = if is_followed life l then followed life l else ended_as (over_of life.how) l

  abbrev pub goes_on : Option End → Life X → InLife X → InLife X
  goes_on (Some how) life l = l
  goes_on None life l = settled life (lived life l)

  -- goes on by so many states, or to the end of the life, and says where the machine stands then
  abbrev pub gone_for : ℕ → InLife X → InLife X
  gone_for states l =
      let gone = goes_on l.over (life_for f deadline states l.machine) l in
      says (stand_line gone.number gone.machine) gone

  -- what a command does
  abbrev pub after_command : List MapEntry → Command → InLife X → InLife X
  after_command entries (Step count) l = gone_for (states_of_activities f count l.machine) l
  after_command entries (Go until) l = gone_for (states_of_run f l.breaks until l.machine) l
  after_command entries (Break addr) l = record l { breaks = l.breaks ++ addr ∷ [] }
  after_command entries Registers l = says (text_of (register_lines l.machine)) l
  after_command entries (Show from count) l = says (memory_lines f l.machine from count) l
  after_command entries (Write addr value) l = record l { machine = poked l.machine addr value }
  after_command entries History l = says (history entries l) l
  after_command entries Quit l = l

  -- what commands do, up to the first that ends the script
  unfoldable pub debugged : List MapEntry → List Command → InLife X → InLife X
  debugged entries [] l = l
  debugged entries (Quit ∷ commands) l = l
  debugged entries (command ∷ commands) l = debugged entries commands (after_command entries command l)

  -- a script over the lives of the board
  abbrev pub in_lives : List MapEntry → List Command → InLife X
  in_lives entries commands = debugged entries commands first_life

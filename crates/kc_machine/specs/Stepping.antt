-- What is said of a machine that goes on activity by activity (this kit's own).
use Rattle.std.specs.Prelude.{◌≡◌, ℕ, ◌<◌, ◌≤◌, List, ◌++◌, drop}
use Rattle.kc_extra.specs.Further.{Further}
use Rattle.kc_intc.specs.declared.requests.Choice.TheVariants.{Go}
use Rattle.kc_trace.specs.declared.record.Record.{Record}
use Rattle.kc_trace.specs.declared.record.Record.TheVariants.{Stopped}
use Rattle.kc_machine_spec.specs.declared.doing.End.{End}
use Rattle.kc_machine_spec.specs.declared.doing.End.TheVariants as end
use Rattle.kc_machine_spec.specs.Machine.{Machine, current, asked}
use Rattle.kc_machine_spec.specs.Passing.{IsIdle}
use Rattle.kc_machine_spec.specs.Run.{run_for}
use Rattle.kc_machine_spec.specs.Text.{processor_lines, register_rows, end_state, end_number}

-- an activity has 1 to 255 states
pub record IsBrief {X : Type 0} (m : Machine X) : Type 0 where
  pub some : 0 < (current m).left
  pub few : (current m).left ≤ 255

-- in each of so many states the machine idles, and no request is served
abbrev pub IdlesFor : {X : Type 0} → Further X → ℕ → Machine X → Type 0
IdlesFor f n m = (k : ℕ) → k < n → IsIdle (run_for f k m).machine × (asked (run_for f k m).machine ≡ Go)

-- ---- what is printed of an end, in two parts

abbrev pub end_line : {X : Type 0} → End → Machine X → Record
end_line how m = Stopped (end_state how m.time) (end_number how)

-- all but the line of the end
abbrev pub register_lines : {X : Type 0} → Machine X → List Record
register_lines m = drop 1 (processor_lines end.Spent m) ++ register_rows 16 m.board.memory

-- A run of which the lines are counted (this kit's own).
use Rattle.std.specs.Prelude.{ℕ, List, [], ◌++◌, codes, decimal}
use Rattle.kc_trace.specs.declared.record.Record.TheVariants.{Stopped}
use Rattle.kc_trace.specs.declared.trace.Counts.{Counts}
use Rattle.kc_trace.specs.Counting.{counted_all}
use Rattle.kc_trace.specs.Text.{line_of}
use Rattle.kc_machine_spec.specs.Machine.{Stepped}
use Rattle.kc_machine_spec.specs.Run.{end_of}
use Rattle.kc_machine_spec.specs.Text.{end_state, end_number}
use Rattle.kc_kit_files.specs.Response.{Response}
use Rattle.kc_kit_inputs.specs.declared.driving.Driving.{Driving}
use Rattle.kc_kit_running.specs.Fitted.{FittedUnit}
use Rattle.kc_kit_running.specs.Running.{ends_with, run_of}
use Rattle.kc_kit_running.specs.Sources.{no_lines}

-- ---- what is known of such a run: how many pin edges, entries and cycles of the transfer server it has, and its end

abbrev pub no_counts : Counts
no_counts = record { pins = 0; entries = 0; cycles = 0; edges = 0 }

abbrev pub numbered : List ℕ → ℕ → List ℕ
numbered word number = word ++ codes " " ++ decimal number ++ codes "\n"

abbrev pub counts_text : ℕ → Counts → List ℕ
counts_text number counts = numbered (codes "gen") number ++ numbered (codes "P") counts.pins ++ numbered (codes "I") counts.entries ++ numbered (codes "S") counts.cycles

abbrev pub summary : ℕ → Stepped FittedUnit → Response
summary number ran =
    ends_with no_lines (end_of ran.machine)
    (counts_text number (counted_all ran.records no_counts) ++ line_of (Stopped (end_state (end_of ran.machine) ran.machine.time) (end_number (end_of ran.machine)))) []

abbrev pub summary_of : ℕ → Driving → List ℕ → Response
summary_of number driving image = summary number (run_of 1000000 driving image)

-- A board that is debugged by a script (this kit's own).
use Rattle.std.specs.Prelude.{ℕ, List, [], ◌∷◌, Option, Some, None}
use Rattle.kc_machine_spec.specs.Run.{end_of}
use Rattle.kc_debug_script.specs.declared.command.Command.{Command}
use Rattle.kc_debug_script.specs.declared.line_map.MapEntry.{MapEntry}
use Rattle.kc_cycles.specs.Making.{deadline_of}
use Rattle.kc_debug.specs.Transcript.{Debugged, transcript}
pub use Rattle.kc_debug.specs.InLives.{end_in}
use Rattle.kc_debug.specs.InLives.{InLife, in_lives}
use Rattle.kc_kit_files.specs.Response.{Response}
use Rattle.kc_kit_inputs.specs.declared.driving.Driving.{Driving}
use Rattle.kc_kit_running.specs.Fitted.{FittedUnit, fitted_further}
use Rattle.kc_kit_running.specs.Running.{ends_with, machine_of}
use Rattle.kc_kit_running.specs.Sources.{no_lines}
use Rattle.kc_kit_running.specs.Watched.{WatchedUnit, watched_further, watched_for}

-- the response of a script that was carried out: how its machine stands when the script ends, and the transcript
abbrev pub script_response : {X : Type 0} → Debugged X → Response
script_response d = ends_with no_lines (end_of d.machine) d.text []

-- commands over the machine of an image that was reset, where these drive the inputs; with the entries of a line map
abbrev pub debugged_by : List MapEntry → List Command → Driving → List ℕ → Debugged FittedUnit
debugged_by lines commands driving image = transcript fitted_further lines commands (machine_of driving image)

-- the same over at most so many lives of the board, with the watchdog; memory is wanted for each life
abbrev pub lives_script_response : {X : Type 0} → InLife X → Response
lives_script_response l = ends_with no_lines (end_in l) l.text ([] ∷ l.pauses)

abbrev pub debugged_in_lives : ℕ → List MapEntry → List Command → Driving → List ℕ → InLife WatchedUnit
debugged_in_lives most lines commands driving image = in_lives watched_further deadline_of image driving.stimuli (watched_for driving.values driving.stimuli) most lines commands

-- the response of a debugger, over lives where their number is given
abbrev pub debugger_response : Option ℕ → List MapEntry → List Command → Driving → List ℕ → Response
debugger_response None lines commands driving image = script_response (debugged_by lines commands driving image)
debugger_response (Some most) lines commands driving image = lives_script_response (debugged_in_lives most lines commands driving image)

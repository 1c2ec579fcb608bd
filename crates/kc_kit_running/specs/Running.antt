-- A run of an image (this kit's own).
use Rattle.std.specs.Prelude.{◌≡◌, ◌⊎◌, ℕ, List, [], ◌∷◌, ◌++◌}
use Rattle.kc_machine_spec.specs.declared.doing.End.{End}
use Rattle.kc_machine_spec.specs.declared.doing.End.TheVariants as end
use Rattle.kc_machine_spec.specs.Machine.{Machine, Stepped, start}
use Rattle.kc_machine_spec.specs.Run.{run_to, end_of}
use Rattle.kc_machine_spec.specs.Text.{trace_of}
use Rattle.kc_kit_files.specs.declared.status.Status.{Status}
use Rattle.kc_kit_files.specs.declared.status.Status.TheVariants as status
use Rattle.kc_kit_files.specs.declared.ended.Ended.{Ended}
use Rattle.kc_kit_files.specs.Ended.{said_in}
use Rattle.kc_kit_files.specs.Response.{Response}
use Rattle.kc_kit_messages.specs.Uses.{use_diagnostic}
use Rattle.kc_kit_inputs.specs.declared.driving.Driving.{Driving}
use Rattle.kc_kit_running.specs.Sources.{FileLines}
use Rattle.kc_kit_running.specs.Fitted.{FittedUnit, fitted, fitted_further}

-- the status of a run that has ended so
abbrev pub status_of : End → Status
status_of (end.Undefined what access) = status.Undefined
status_of _ = status.Done

-- what is said in words of a run that has ended so: of an undefined use alone
abbrev pub said_of : FileLines → End → List ℕ
said_of lines (end.Undefined what access) = use_diagnostic (lines what.addr) what access
said_of lines _ = []

abbrev pub IsUndefined : End → Type 0
IsUndefined (end.Undefined what access) = Unit {0}
IsUndefined _ = ⊥

-- How a command has ended whose run has ended so: with the status, and what is said in words; or memory ran out for these words.
abbrev pub IsEndOf : FileLines → End → Ended → Type 0
IsEndOf lines how ended =
    ((ended.status ≡ status_of how) × (said_in ended.said ≡ said_of lines how)) ⊎ ((ended.status ≡ status.NoMemory) × IsUndefined how)

-- it takes memory, behind the text
abbrev pub pauses_behind : End → List ℕ → List (List ℕ)
pauses_behind (end.Undefined what access) text = text ∷ []
pauses_behind _ text = []

-- the response where a run has ended so, with this text, in which there are these pauses, and no file
abbrev pub ends_with : FileLines → End → List ℕ → List (List ℕ) → Response
ends_with lines how text pauses = record { status = status_of how; text = text; pauses = pauses ++ pauses_behind how text; writes = []; diagnostic = said_of lines how }

-- the response of a run: how it ended, and its text
abbrev pub run_response : {X : Type 0} → FileLines → Stepped X → Response
run_response lines ran = ends_with lines (end_of ran.machine) (trace_of ran) []

-- the machine of an image before its first state, where these drive the inputs
abbrev pub machine_of : Driving → List ℕ → Machine FittedUnit
machine_of driving image = start image driving.stimuli (fitted driving)

-- its run for so many state times
abbrev pub run_of : ℕ → Driving → List ℕ → Stepped FittedUnit
run_of states driving image = run_to fitted_further states (machine_of driving image)

abbrev pub RunOf : FileLines → ℕ → Driving → List ℕ → Response → Type 0
RunOf lines states driving image response = response ≡ run_response lines (run_of states driving image)

-- Stimulus files, and what drives the inputs (this kit's own).
use Rattle.std.specs.Prelude.{ℕ, List, [], fold, Option, Some, None, Result, Ok, Err}
use Rattle.kc_stim.specs.declared.fault.StimFault.{StimFault}
use Rattle.kc_stim.specs.Faults.{place_of}
use Rattle.kc_stim.specs.Drives.{Drives}
use Rattle.kc_stim.specs.Reading.{nothing, with_item, first_fault, items_of}
use Rattle.kc_kit_files.specs.declared.status.Status.TheVariants as status
use Rattle.kc_kit_files.specs.Response.{Response, says}
use Rattle.kc_kit_inputs.specs.Responses.{line_response}

abbrev pub response_at : List ℕ → List ℕ → Option (ℕ × List ℕ) → Response
response_at name text (Some place) = line_response name text place.0 place.1
response_at name text None = says status.Input []

abbrev pub by_fault : List ℕ → List ℕ → Option StimFault → Result Drives Response
by_fault name text None = Ok (fold with_item nothing (items_of text))
by_fault name text (Some fault) = Err (response_at name text (place_of fault))

-- what a stimulus file drives, or the response to its first fault
abbrev pub stimuli_of : List ℕ → List ℕ → Result Drives Response
stimuli_of name text = by_fault name text (first_fault 0 nothing (items_of text))

-- what drives the inputs of a run: its stimulus file, by its name and its text, and nothing without one
abbrev pub drives_of : Option (List ℕ × List ℕ) → Result Drives Response
drives_of (Some file) = stimuli_of file.0 file.1
drives_of None = Ok nothing

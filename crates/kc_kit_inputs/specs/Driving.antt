-- What drives the inputs of a run: its pins, and its analogue inputs (this kit's own).
use Rattle.std.specs.Prelude.{ℕ, ◌≤◌, List, length, Option, Result, Ok, Err, IfSome}
use Rattle.std.specs.Option.{option_map}
use Rattle.kc_base.specs.Limits.{file_limit}
use Rattle.kc_stim.specs.Drives.{Drives}
use Rattle.kc_convert.specs.declared.sample.Sample.{Sample}
use Rattle.kc_kit_files.specs.Response.{Response}
use Rattle.kc_kit_words.specs.declared.inputs.Role.{Role}
use Rattle.kc_kit_words.specs.declared.inputs.Role.TheVariants as role
use Rattle.kc_kit_inputs.specs.declared.driving.Driving.{Driving}
use Rattle.kc_kit_inputs.specs.declared.driving.Given.{Given}
use Rattle.kc_kit_inputs.specs.Analog.{values_of}
use Rattle.kc_kit_inputs.specs.Inputs.{input_for}
use Rattle.kc_kit_inputs.specs.Stimuli.{drives_of}

-- a stimulus file and an analogue file, each by its name and its text where there is one
pub record GivenFiles : Type 0 where
  pub stimuli : Option (List ℕ × List ℕ)
  pub analog : Option (List ℕ × List ℕ)

-- those among the files that options name for reading
abbrev pub given_for : List (Role × List ℕ) → List (List ℕ) → GivenFiles
given_for inputs texts = record { stimuli = input_for role.Stimuli inputs texts; analog = input_for role.Analog inputs texts }

abbrev pub with_values : Drives → Result (List Sample) Response → Result Driving Response
with_values drives (Ok values) = Ok (record { stimuli = drives; values = values })
with_values drives (Err refusal) = Err refusal

abbrev pub with_drives : Result Drives Response → Result (List Sample) Response → Result Driving Response
with_drives (Ok drives) values = with_values drives values
with_drives (Err refusal) values = Err refusal

-- what these drive, or the response to the first fault: the stimuli are checked before the values
abbrev pub driving_of : GivenFiles → Result Driving Response
driving_of given = with_drives (drives_of given.stimuli) (values_of given.analog)

-- what given files show, and that each is within the limit of a file
abbrev pub given_in : Given → GivenFiles
given_in given = record { stimuli = option_map (λ f. (f.0.now, f.1.now)) given.stimuli; analog = option_map (λ f. (f.0.now, f.1.now)) given.analog }

pub record AreShort (given : Given) : Type 0 where
  pub stimuli : IfSome given.stimuli (λ f. length f.1.now ≤ file_limit)
  pub analog : IfSome given.analog (λ f. length f.1.now ≤ file_limit)

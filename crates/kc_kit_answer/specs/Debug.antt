-- The command that debugs a hex file by a script (this kit's own).
use Rattle.std.specs.Prelude.{ℕ, List, Option}
use Rattle.std.specs.Result.{IsOk}
use Rattle.kc_hex.specs.Records.{image_of}
use Rattle.kc_kit_files.specs.Response.{Response}
use Rattle.kc_kit_words.specs.declared.inputs.Role.{Role}
use Rattle.kc_kit_words.specs.declared.inputs.Role.TheVariants as role
use Rattle.kc_kit_inputs.specs.declared.driving.Driving.{Driving}
use Rattle.kc_kit_inputs.specs.Driving.{given_for, driving_of}
use Rattle.kc_kit_inputs.specs.Inputs.{input_for}
use Rattle.kc_kit_inputs.specs.Scripts.{script_of, lines_of}
use Rattle.kc_kit_running.specs.Scripted.{debugger_response}
use Rattle.kc_kit_answer.specs.Accepting.{reported}
use Rattle.kc_kit_answer.specs.Hex.{HexReported}

-- with an image and what drives the inputs, the script is checked, then the line map, and then the script is carried out
abbrev pub debug_response : List ℕ × List ℕ → Option (List ℕ × List ℕ) → Option ℕ → Driving → List ℕ → Response
debug_response script lines lives driving image =
    reported (script_of script.0 script.1) (λ commands. reported (lines_of lines) (λ entries. debugger_response lives entries commands driving image))

-- the answer to a hex file that is debugged by a script
abbrev pub DebugAnswer : List ℕ → List ℕ → List (Role × List ℕ) → Option ℕ → List ℕ → List ℕ → List (List ℕ) → Response → Type 0
DebugAnswer name script inputs lives text script_text input_texts response =
    HexReported name (given_for inputs input_texts) text (debug_response (script, script_text) (input_for role.Lines inputs input_texts) lives) response

-- what is accepted: the hex file, what drives the inputs, the script and the line map have their form
pub record IsDebuggable (script : List ℕ) (inputs : List (Role × List ℕ)) (text script_text : List ℕ) (input_texts : List (List ℕ)) : Type 0 where
  pub image : IsOk (image_of text)
  pub driving : IsOk (driving_of (given_for inputs input_texts))
  pub script_read : IsOk (script_of script script_text)
  pub lines : IsOk (lines_of (input_for role.Lines inputs input_texts))

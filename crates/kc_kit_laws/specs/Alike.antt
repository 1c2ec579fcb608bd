-- A law of the commands: `asm` of each source, `link` of the objects and `hex` of the file answer as `run` of the sources does. What
-- is said of an undefined use in words is the one difference: a hex file has no lines of sources (this kit's own).
use Rattle.std.specs.Prelude.{◌≡◌, ◌≢◌, ℕ, ◌^◌, true, nat_lt, List, [], ◌∷◌, length, map, None}
use Rattle.std.specs.List.{list_all}
use Rattle.kc_obj_module.specs.Object.{Object}
use Rattle.kc_obj_module.specs.Spelling.{spelling}
use Rattle.kc_link_place.specs.declared.ranges.Ranges.{Ranges}
use Rattle.kc_kit_files.specs.declared.status.Status.TheVariants as status
use Rattle.kc_kit_files.specs.Response.{Response, write, done_writing}
use Rattle.kc_kit_words.specs.declared.extent.Extent.{Extent}
use Rattle.kc_kit_words.specs.declared.inputs.Role.{Role}
use Rattle.kc_kit_words.specs.Commands.{Beside}
use Rattle.kc_kit_answer.specs.Hex.{RunHexAnswer}
use Rattle.kc_kit_answer.specs.Link.{LinkAnswer}
use Rattle.kc_kit_answer.specs.Run.{RunAnswer}
use Rattle.kc_kit_inputs.specs.FaultDiagnostics.{IsFaultDiagnostic}
use Rattle.kc_kit_inputs.specs.Sources.{AreModules}
use Rattle.kc_kit_laws.specs.OneAnswer.{silent}

-- no file is asked for beside the hex file
abbrev pub hex_alone : Beside
hex_alone = record { lines = None; map = None }

-- sources are answered this response to a hex file, but for what is said in words of an undefined use
abbrev pub IsAlike : List (List ℕ) → List (Role × List ℕ) → Extent → Ranges → List (List ℕ) → List (List ℕ) → Response → Type 0
IsAlike names inputs extent ranges texts input_texts response =
    (other : Response) × RunAnswer IsFaultDiagnostic names inputs extent ranges texts input_texts other
    × (silent other ≡ silent response) × (response.status ≢ status.Undefined → other ≡ response)

-- where each text has fewer than 2^32 bytes: an object counts lines in 32 bits
abbrev pub RunsAlike : Type 0
RunsAlike =
    (names objects texts : List (List ℕ)) (ms : List Object) (inputs : List (Role × List ℕ)) (input_texts : List (List ℕ)) (ranges : Ranges) (extent : Extent) (file hex : List ℕ) (response : Response)
    → AreModules texts ms → list_all (λ t. nat_lt (length t) (2 ^ 32)) texts ≡ true → length objects ≡ length ms
    → LinkAnswer objects [] file hex_alone ranges (map spelling ms) [] (done_writing (write file hex ∷ []))
    → RunHexAnswer file inputs extent hex input_texts response
    → IsAlike names inputs extent ranges texts input_texts response

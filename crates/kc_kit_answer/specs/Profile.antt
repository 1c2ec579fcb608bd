-- The commands that run a board and write where its states go (this kit's own).
use Rattle.std.specs.Prelude.{◌≡◌, ℕ, List, map, Result, Some, None}
use Rattle.kc_obj_module.specs.Object.{Object}
use Rattle.kc_link_place.specs.declared.ranges.Ranges.{Ranges}
use Rattle.kc_link_place.specs.Placing.{Places, bases_from}
use Rattle.kc_link.specs.declared.lines.LineAt.{LineAt}
use Rattle.kc_link.specs.Filled.{IsFilled}
use Rattle.kc_link.specs.LineMap.{IsLineMap}
use Rattle.kc_debug_script.specs.declared.line_map.MapEntry.{MapEntry}
use Rattle.kc_kit_files.specs.Response.{Response, Then}
use Rattle.kc_kit_words.specs.Commands.{Behind}
use Rattle.kc_kit_words.specs.declared.extent.Extent.{Extent}
use Rattle.kc_kit_words.specs.declared.inputs.Role.{Role}
use Rattle.kc_kit_inputs.specs.declared.driving.Driving.{Driving}
use Rattle.kc_kit_inputs.specs.Driving.{GivenFiles, given_for, driving_of}
use Rattle.kc_kit_inputs.specs.Sources.{DiagnosticRule, SourcesAre}
use Rattle.kc_kit_running.specs.Profiled.{Known, none_known, profile_response}
use Rattle.kc_kit_running.specs.Sources.{lines_of_files}
use Rattle.kc_kit_answer.specs.Cover.{AreSources}
use Rattle.kc_kit_answer.specs.Hex.{HexReported}
use Rattle.kc_kit_answer.specs.Places.{Placing}
use Rattle.kc_kit_answer.specs.Run.{IsImageOfTexts}

-- ---- a hex file, of which nothing is known

-- a profile alone
abbrev pub ProfileHexAnswer : List ℕ → List (Role × List ℕ) → Extent → List ℕ → List ℕ → List (List ℕ) → Response → Type 0
ProfileHexAnswer name inputs extent out text input_texts response =
    HexReported name (given_for inputs input_texts) text (profile_response extent (record { profile = Some out; cover = None }) none_known) response

-- ---- sources, with the line map of their modules

abbrev pub map_entry : LineAt → MapEntry
map_entry entry = record { addr = entry.addr; name = entry.name; line = entry.line }

-- the entries of the line map of modules at their places
abbrev pub AreEntries : List Object → Places → List MapEntry → Type 0
AreEntries ms places entries = (lines : List LineAt) × IsLineMap ms places lines × (entries ≡ map map_entry lines)

-- what is known of the lines of sources, with their modules at their places in an image
pub record AreLines (names texts : List (List ℕ)) (image : List ℕ) (ms : List Object) (places : Places) (known : Known) : Type 0 where
  pub entries : AreEntries ms places known.entries
  pub sources : AreSources names texts image ms (bases_from ms places 0 ms) known.sources
  pub lines : known.lines ≡ lines_of_files names ms places

-- in the image that is filled from the modules of sources, with what is known of their lines, the answer is this
pub record FilledWithLines (names texts : List (List ℕ)) (report : Known → List ℕ → Response) (ms : List Object) (places : Places) (response : Response) : Type 0 where
  pub image : List ℕ
  pub is_filled : IsFilled ms places image
  pub known : Known
  pub are_lines : AreLines names texts image ms places known
  pub reported : response ≡ report known image

-- the same in the image that is linked from sources
pub record LinkedWithLines (names texts : List (List ℕ)) (report : Known → List ℕ → Response) (ms : List Object) (places : Places) (response : Response) : Type 0 where
  pub image : List ℕ
  pub is_filled : IsFilled ms places image
  pub is_image : IsImageOfTexts texts ms places image
  pub known : Known
  pub are_lines : AreLines names texts image ms places known
  pub reported : response ≡ report known image

-- once modules are placed, it is checked what drives the inputs
abbrev pub DrivenWithLines : GivenFiles → ((Known → List ℕ → Response) → List Object → Places → Response → Type 0) → (Known → Driving → List ℕ → Response) → List Object → Places → Response → Type 0
DrivenWithLines given may report ms places response = Then (driving_of given) (λ driving. may (λ known. report known driving) ms places) response

abbrev pub LinesReported : DiagnosticRule → List (List ℕ) → GivenFiles → Ranges → List (List ℕ) → (Known → Driving → List ℕ → Response) → Response → Type 0
LinesReported IsDiagnostic names given ranges texts report response =
    (sources : Result (List Object) Response) × SourcesAre IsDiagnostic names texts sources × Then sources (Placing names ranges (DrivenWithLines given (LinkedWithLines names texts) report)) response

abbrev pub ProfileAnswer : DiagnosticRule → List (List ℕ) → List (Role × List ℕ) → Extent → Ranges → Behind → List (List ℕ) → List (List ℕ) → Response → Type 0
ProfileAnswer IsDiagnostic names inputs extent ranges behind texts input_texts response = LinesReported IsDiagnostic names (given_for inputs input_texts) ranges texts (profile_response extent behind) response

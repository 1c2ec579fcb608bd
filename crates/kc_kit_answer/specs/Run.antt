-- The command that runs sources (this kit's own).
use Rattle.std.specs.Prelude.{◌≡◌, ℕ, ◌≤◌, true, None, List, [], ◌∷◌, length, Result}
use Rattle.std.specs.List.{list_all}
use Rattle.std.specs.Result.{IsOk}
use Rattle.kc_obj_module.specs.Object.{Object}
use Rattle.kc_source_statement.specs.declared.statement.Stmt.{Stmt}
use Rattle.kc_asm_check.specs.Checking.{first_fault}
use Rattle.kc_asm_section.specs.declared.unlinked.UnlinkedModule.{UnlinkedModule}
use Rattle.kc_asm_section.specs.ModuleOf.{IsModuleOf, pieces_in}
use Rattle.kc_asm_unlinked_laws.specs.Collecting.{IsUnlinkedModuleOf}
use Rattle.kc_asm.specs.Assembled.{AreSaid}
use Rattle.kc_asm.specs.Characters.{has_bytes}
use Rattle.kc_asm.specs.Linked.{IsLinked}
use Rattle.kc_link_place.specs.declared.ranges.Ranges.{Ranges}
use Rattle.kc_link_place.specs.Placing.{Places}
use Rattle.kc_link.specs.Filled.{IsFilled}
use Rattle.kc_kit_files.specs.Response.{Response, Then}
use Rattle.kc_kit_words.specs.declared.extent.Extent.{Extent}
use Rattle.kc_kit_words.specs.declared.inputs.Role.{Role}
use Rattle.kc_kit_inputs.specs.declared.driving.Driving.{Driving}
use Rattle.kc_kit_inputs.specs.Driving.{GivenFiles, given_for, driving_of}
use Rattle.kc_kit_inputs.specs.Sources.{DiagnosticRule, AreModules, SourcesAre, AreFaultless}
use Rattle.kc_kit_answer.specs.Places.{places_of, Placing}
use Rattle.kc_kit_running.specs.Lives.{board_response}
use Rattle.kc_kit_running.specs.Sources.{FileLines, lines_of_files}

-- the statements of sources, and their unlinked modules
abbrev pub AreCollected : List (List ℕ) → List (List Stmt) → List UnlinkedModule → List Object → Type 0
AreCollected [] [] [] [] = Unit {0}
AreCollected (text ∷ texts) (said ∷ sources) (d ∷ unlinked_modules) (m ∷ ms) =
    AreSaid text said × (list_all has_bytes said ≡ true) × (first_fault said ≡ None) × IsUnlinkedModuleOf said d × (length (pieces_in d) ≤ 65536) × IsModuleOf d m × AreCollected texts sources unlinked_modules ms
AreCollected _ _ _ _ = ⊥

-- an image in which the place of each statement of the sources decodes to that statement
pub record IsImageOfTexts (texts : List (List ℕ)) (ms : List Object) (places : Places) (image : List ℕ) : Type 0 where
  pub sources : List (List Stmt)
  pub unlinked_modules : List UnlinkedModule
  pub collected : AreCollected texts sources unlinked_modules ms
  pub linked : IsLinked sources unlinked_modules ms places image

-- in the image that is filled from modules the answer is this
pub record FilledReported (report : List ℕ → Response) (ms : List Object) (places : Places) (response : Response) : Type 0 where
  pub image : List ℕ
  pub is_filled : IsFilled ms places image
  pub reported : response ≡ report image

-- in the image that is linked from sources the answer is this
pub record LinkedReported (texts : List (List ℕ)) (report : List ℕ → Response) (ms : List Object) (places : Places) (response : Response) : Type 0 where
  pub image : List ℕ
  pub is_filled : IsFilled ms places image
  pub is_image : IsImageOfTexts texts ms places image
  pub reported : response ≡ report image

-- once modules are placed, it is checked what drives the inputs
abbrev pub Driven : GivenFiles → ((List ℕ → Response) → List Object → Places → Response → Type 0) → (Driving → List ℕ → Response) → List Object → Places → Response → Type 0
Driven given may report ms places response = Then (driving_of given) (λ driving. may (report driving) ms places) response

-- sources are checked, their modules are placed, it is checked what drives the inputs, and with the lines of the sources and the
-- image the answer is this
abbrev pub RunReported : DiagnosticRule → List (List ℕ) → GivenFiles → Ranges → List (List ℕ) → (FileLines → Driving → List ℕ → Response) → Response → Type 0
RunReported IsDiagnostic names given ranges texts report response =
    (sources : Result (List Object) Response) × SourcesAre IsDiagnostic names texts sources
    × Then sources (Placing names ranges (λ ms places. Driven given (LinkedReported texts) (report (lines_of_files names ms places)) ms places)) response

-- the same where the answer does not depend on lines
abbrev pub SourcesReported : DiagnosticRule → List (List ℕ) → GivenFiles → Ranges → List (List ℕ) → (Driving → List ℕ → Response) → Response → Type 0
SourcesReported IsDiagnostic names given ranges texts report response = RunReported IsDiagnostic names given ranges texts (λ lines. report) response

-- the answer to sources that are run
abbrev pub RunAnswer : DiagnosticRule → List (List ℕ) → List (Role × List ℕ) → Extent → Ranges → List (List ℕ) → List (List ℕ) → Response → Type 0
RunAnswer IsDiagnostic names inputs extent ranges texts input_texts response =
    RunReported IsDiagnostic names (given_for inputs input_texts) ranges texts (λ lines. board_response lines extent) response

-- ---- what is accepted: no source has a fault, no rule of the linker is broken, and what drives the inputs has its form

abbrev pub AreRunnable : List (List ℕ) → List (Role × List ℕ) → Ranges → List (List ℕ) → List (List ℕ) → Type 0
AreRunnable names inputs ranges texts input_texts =
    AreFaultless texts × ((ms : List Object) → AreModules texts ms → IsOk (places_of names ms ranges)) × IsOk (driving_of (given_for inputs input_texts))

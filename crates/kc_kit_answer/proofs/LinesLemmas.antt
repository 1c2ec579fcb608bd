-- The image of modules, and their line map.
use Rattle.std.proofs.Common.{◌≡◌, ℕ, List, Result, Ok, Err, refl}
use Rattle.kc_link_place.specs.declared.ranges.Ranges.{Ranges}
use Rattle.kc_link_place.specs.declared.ranges.LinkFault.{LinkFault}
use Rattle.kc_link_place.specs.Placing.{Places}
use Rattle.kc_link.specs.Placed.{placed}
use Rattle.kc_asm.specs.Linked.{LinkedImage}
use Rattle.kc_source_laws.specs.Read.{SourcesAreReadWell}
use Rattle.kc_obj_module.specs.Object.{Object}
use Rattle.kc_kit_files.specs.declared.refusal.Refusal.{Refusal}
use Rattle.kc_kit_files.specs.Response.{Response, Then}
use Rattle.kc_kit_files.proofs.ReadLemmas.{refused-widen}
use Rattle.kc_kit_inputs.specs.declared.driving.Driving.{Driving}
use Rattle.kc_kit_inputs.specs.Driving.{GivenFiles, driving_of}
use Rattle.kc_kit_inputs.specs.Sources.{AreModules}
use Rattle.kc_kit_running.specs.declared.accounts.Lines.{Lines}
use Rattle.kc_kit_running.specs.declared.board.Board.{Board}
use Rattle.kc_kit_running.specs.Profiled.{Known, known}
use Rattle.kc_kit_answer.specs.Jobs.{IsBoardWithLines}
use Rattle.kc_kit_answer.specs.Places.{by_places, Placing}
use Rattle.kc_kit_answer.specs.Profile.{FilledWithLines, LinkedWithLines, DrivenWithLines}
use Rattle.kc_kit_answer.proofs.AnswerSteps.{then-map}
use Rattle.kc_kit_answer.proofs.SourceLemmas.{image-of}

-- what is answered by a board and its line map may be answered more widely
pub lines-widen : (answer wide : (Known → Driving → List ℕ → Response) → Response → Type 0) (b : Result (Board × Lines) Refusal) → ((report : Known → Driving → List ℕ → Response) (r : Response) → answer report r → wide report r) →
    IsBoardWithLines answer b → IsBoardWithLines wide b
lines-widen answer wide (Ok made) f h = (h.0, λ report. f report (report (known made.1) made.0.driving made.0.image) (h.1 report))
lines-widen answer wide (Err refusal) f h = λ report. refused-widen (answer report) (wide report) refusal (f report) (h report)

-- what is known of the lines in the image that modules are filled into is known of them in the image that is linked from sources
pub lines-linked : SourcesAreReadWell → LinkedImage → (names : List (List ℕ)) (given : GivenFiles) (ranges : Ranges) (texts : List (List ℕ)) (report : Known → Driving → List ℕ → Response) (ms : List Object) (r : Response) → AreModules texts ms →
    Placing names ranges (DrivenWithLines given (FilledWithLines names texts) report) ms r → Placing names ranges (DrivenWithLines given (LinkedWithLines names texts) report) ms r
lines-linked read law names given ranges texts report ms r made h = by (placed ms ranges) refl h
  where
    by : (x : Result Places LinkFault) → placed ms ranges ≡ x → Then (by_places names ms x) (DrivenWithLines given (FilledWithLines names texts) report ms) r → Then (by_places names ms x) (DrivenWithLines given (LinkedWithLines names texts) report ms) r
    by (Ok places) e k =
        then-map (driving_of given) (λ d. FilledWithLines names texts (λ known. report known d) ms places) (λ d. LinkedWithLines names texts (λ known. report known d) ms places) r
        (λ d f. record { image = f.image; is_filled = f.is_filled; is_image = image-of read law texts ms ranges places f.image made e f.is_filled; known = f.known; are_lines = f.are_lines; reported = f.reported }) k
    by (Err f) e k = k

use Rattle.std.proofs.Common.{map, string_bytes, subst, ℕ, List, Some}
use Rattle.kc_kit_files.specs.Response.{Response, IsRefused}
use Rattle.kc_kit_inputs.specs.declared.driving.Driving.{Driving}
use Rattle.kc_kit_messages.proofs.Words.{texts_in}
use Rattle.kc_kit_inputs.specs.FaultDiagnostics.{IsFaultDiagnostic}
use Rattle.kc_kit_running.specs.Lives.{board_response}
use Rattle.kc_kit_running.specs.Sources.{FileLines, lines_in}
use Rattle.kc_kit_answer.specs.Run.{RunReported}
use Rattle.kc_kit_answer.proofs.run.run_texts.Goals as goal

pub returns-in-Ok : goal.returns-in-Ok
returns-in-Ok c =
    let run = c.args.run.now in
    let report : FileLines → Driving → List ℕ → Response = λ lines. board_response lines run.extent in
    (subst (λ s. RunReported IsFaultDiagnostic (map string_bytes run.files.now) s run.placing (texts_in c.args.texts.now) report (report (lines_in (Some c.in-Ok.sources)) c.in-Ok.board.driving c.in-Ok.board.image)) c.given_for-given.ensures.given (c.in-Ok.ensures.1 report), (c.requires.within.0, c.in-Ok.ensures.0))

pub returns-in-Err : goal.returns-in-Err
returns-in-Err c =
    let run = c.args.run.now in
    let report : FileLines → Driving → List ℕ → Response = λ lines. board_response lines run.extent in
    subst (λ s. IsRefused (RunReported IsFaultDiagnostic (map string_bytes run.files.now) s run.placing (texts_in c.args.texts.now) report) c.in-Err.refusal) c.given_for-given.ensures.given (c.in-Err.ensures report)

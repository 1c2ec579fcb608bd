use Rattle.std.proofs.Common.{map, string_bytes, Ok, Err, refl}
use Rattle.kc_kit_files.proofs.ReadLemmas.{refused-widen}
use Rattle.kc_kit_inputs.specs.Driving.{given_in}
use Rattle.kc_kit_inputs.specs.Sources.{ReportsFirst}
use Rattle.kc_kit_messages.proofs.Words.{texts_in}
use Rattle.kc_kit_inputs.specs.FaultDiagnostics.{IsFaultDiagnostic}
use Rattle.kc_kit_running.specs.Sources.{lines_of_files}
use Rattle.kc_kit_answer.specs.Places.{Placing}
use Rattle.kc_kit_answer.specs.Run.{Driven, FilledReported, RunReported}
use Rattle.kc_kit_answer.proofs.AnswerSteps.{sources-widen}
use Rattle.kc_kit_answer.proofs.SourceLemmas.{linked-placing}
use Rattle.kc_kit_answer.proofs.board.board_with_sources.Goals as goal

pub returns-in-Ok : goal.returns-in-Ok
returns-in-Ok c =
    let names = map string_bytes c.args.names.now in
    let given = given_in c.args.given in
    let texts = texts_in c.args.texts.now in
    sources-widen (λ report. Placing names c.args.placing.now (λ ms places. Driven given FilledReported (report (lines_of_files names ms places)) ms places) c.in-Ok.modules.items) (RunReported IsFaultDiagnostic names given c.args.placing.now texts) c.board_with_modules.result
    (λ report r m. (Ok c.in-Ok.modules.items, c.in-Ok.ensures.made, linked-placing c.sources_are_read_well.ensures c.linked_image.ensures names given c.args.placing.now texts (λ ms places. report (lines_of_files names ms places)) c.in-Ok.modules.items r c.in-Ok.ensures.made m))
    c.board_with_modules.ensures

pub returns-in-Err : goal.returns-in-Err
returns-in-Err c =
    let names = map string_bytes c.args.names.now in
    let given = given_in c.args.given in
    let texts = texts_in c.args.texts.now in
    λ report. refused-widen (ReportsFirst IsFaultDiagnostic names texts) (RunReported IsFaultDiagnostic names given c.args.placing.now texts report) c.in-Err.refusal (λ r e. (Err r, e, refl)) c.in-Err.ensures.refusal

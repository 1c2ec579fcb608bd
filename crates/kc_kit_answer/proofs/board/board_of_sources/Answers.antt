use Rattle.std.proofs.Common.{map, string_bytes, Ok, Err, refl}
use Rattle.kc_kit_files.proofs.ReadLemmas.{refused-widen}
use Rattle.kc_kit_inputs.specs.Driving.{given_in}
use Rattle.kc_kit_inputs.specs.Sources.{ReportsFirst}
use Rattle.kc_kit_messages.proofs.Words.{texts_in}
use Rattle.kc_kit_inputs.specs.FaultDiagnostics.{IsFaultDiagnostic}
use Rattle.kc_kit_answer.specs.Places.{Placing}
use Rattle.kc_kit_answer.specs.Run.{Driven, FilledReported, SourcesReported}
use Rattle.kc_kit_answer.proofs.AnswerSteps.{board-widen}
use Rattle.kc_kit_answer.proofs.SourceLemmas.{linked-placing}
use Rattle.kc_kit_answer.proofs.board.board_of_sources.Goals as goal

pub returns-in-Ok : goal.returns-in-Ok
returns-in-Ok c =
    let names = map string_bytes c.args.names.now in
    let given = given_in c.args.given in
    let texts = texts_in c.args.texts.now in
    board-widen (λ report. Placing names c.args.placing.now (Driven given FilledReported report) c.in-Ok.modules.items) (SourcesReported IsFaultDiagnostic names given c.args.placing.now texts) c.board_of_modules.result
    (λ report r m. (Ok c.in-Ok.modules.items, c.in-Ok.ensures.made, linked-placing c.sources_are_read_well.ensures c.linked_image.ensures names given c.args.placing.now texts (λ ms places. report) c.in-Ok.modules.items r c.in-Ok.ensures.made m))
    (rw c.deref.ensures.value at c.board_of_modules.ensures)

pub returns-in-Err : goal.returns-in-Err
returns-in-Err c =
    let names = map string_bytes c.args.names.now in
    let given = given_in c.args.given in
    let texts = texts_in c.args.texts.now in
    λ report. refused-widen (ReportsFirst IsFaultDiagnostic names texts) (SourcesReported IsFaultDiagnostic names given c.args.placing.now texts report) c.in-Err.refusal (λ r e. (Err r, e, refl)) c.in-Err.ensures.refusal

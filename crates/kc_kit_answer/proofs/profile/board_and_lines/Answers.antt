use Rattle.std.proofs.Common.{map, string_bytes, Ok, Err, refl}
use Rattle.kc_kit_files.proofs.ReadLemmas.{refused-widen}
use Rattle.kc_kit_inputs.specs.Driving.{given_in}
use Rattle.kc_kit_inputs.specs.Sources.{ReportsFirst}
use Rattle.kc_kit_messages.proofs.Words.{texts_in}
use Rattle.kc_kit_inputs.specs.FaultDiagnostics.{IsFaultDiagnostic}
use Rattle.kc_kit_answer.specs.Places.{Placing}
use Rattle.kc_kit_answer.specs.Profile.{DrivenWithLines, FilledWithLines, LinesReported}
use Rattle.kc_kit_answer.proofs.LinesLemmas.{lines-widen, lines-linked}
use Rattle.kc_kit_answer.proofs.profile.board_and_lines.Goals as goal

pub returns-in-Ok : goal.returns-in-Ok
returns-in-Ok c =
    let names = map string_bytes c.args.names.now in
    let given = given_in c.args.given in
    let texts = texts_in c.args.texts.now in
    lines-widen (λ report. Placing names c.args.placing.now (DrivenWithLines given (FilledWithLines names texts) report) c.in-Ok.modules.items) (LinesReported IsFaultDiagnostic names given c.args.placing.now texts) c.linked.result
    (λ report r m. (Ok c.in-Ok.modules.items, c.in-Ok.ensures.made, lines-linked c.sources_are_read_well.ensures c.linked_image.ensures names given c.args.placing.now texts report c.in-Ok.modules.items r c.in-Ok.ensures.made m))
    c.linked.ensures

pub returns-in-Err : goal.returns-in-Err
returns-in-Err c =
    let names = map string_bytes c.args.names.now in
    let given = given_in c.args.given in
    let texts = texts_in c.args.texts.now in
    λ report. refused-widen (ReportsFirst IsFaultDiagnostic names texts) (LinesReported IsFaultDiagnostic names given c.args.placing.now texts report) c.in-Err.refusal (λ r e. (Err r, e, refl)) c.in-Err.ensures.refusal

use Rattle.std.proofs.Common.{◌≡◌, ◌∙◌, [], ◌∷◌, Ok, Err, refl, ap}
use Rattle.std.specs.Option.{option_map}
use Rattle.kc_kit_files.specs.Response.{Response, write}
use Rattle.kc_kit_files.specs.Writes.{writing_readable}
use Rattle.kc_kit_files.proofs.ReadLemmas.{refused-widen}
use Rattle.kc_kit_inputs.specs.FaultDiagnostics.{IsFaultDiagnostic}
use Rattle.kc_kit_answer.specs.Assemble.{AssembleAnswer}
use Rattle.kc_kit_answer.specs.Jobs.{maybe_written}
use Rattle.kc_kit_inputs.specs.Sources.{ReportsFault}
use Rattle.kc_kit_answer.proofs.AnswerSteps.{prepared-widen}
use Rattle.kc_kit_answer.proofs.assemble.object_text.Goals as goal

pub returns-in-Err : goal.returns-in-Err
returns-in-Err c =
    let assemble = c.args.assemble.now in
    refused-widen (ReportsFault IsFaultDiagnostic assemble.file.now c.args.text.now) (AssembleAnswer IsFaultDiagnostic assemble.file.now assemble.out.now (option_map (λ l. l.now) assemble.list) c.args.text.now) c.in-Err.refusal (λ r e. (Err r, e, refl)) c.in-Err.ensures.refusal

pub returns-in-Ok-listing_file : goal.returns-in-Ok-listing_file
returns-in-Ok-listing_file c =
    let assemble = c.args.assemble.now in
    let listed = maybe_written c.in-Ok-listing_file.list in
    prepared-widen (λ (response : Response). response ≡ writing_readable (write assemble.out.now c.in-Ok-encode.bytes.items ∷ []) listed)
    (AssembleAnswer IsFaultDiagnostic assemble.file.now assemble.out.now (option_map (λ l. l.now) assemble.list) c.args.text.now) c.writing.result
    (λ r e. (Ok c.in-Ok.made, c.in-Ok.ensures.made, (listed, c.in-Ok-listing_file.ensures, e ∙ ap (λ b. writing_readable (write assemble.out.now b ∷ []) listed) c.in-Ok-encode.ensures.bytes))) c.writing.ensures

use Rattle.std.proofs.Common.{map, string_bytes, subst, ℕ, List}
use Rattle.kc_kit_files.specs.Response.{Response, IsRefused}
use Rattle.kc_kit_inputs.specs.declared.driving.Driving.{Driving}
use Rattle.kc_kit_messages.proofs.Words.{texts_in}
use Rattle.kc_kit_inputs.specs.FaultDiagnostics.{IsFaultDiagnostic}
use Rattle.kc_kit_words.specs.Asked.{behind_in}
use Rattle.kc_kit_running.specs.Profiled.{Known, known, profile_response}
use Rattle.kc_kit_answer.specs.Profile.{LinesReported}
use Rattle.kc_kit_answer.proofs.profile.profile_texts.Goals as goal

pub returns-in-Ok : goal.returns-in-Ok
returns-in-Ok c =
    let run = c.args.run.now in
    let report : Known → Driving → List ℕ → Response = profile_response run.extent (behind_in run.behind) in
    (subst (λ s. LinesReported IsFaultDiagnostic (map string_bytes run.files.now) s run.placing (texts_in c.args.texts.now) report (report (known c.in-Ok.lines) c.in-Ok.board.driving c.in-Ok.board.image)) c.given_for-given.ensures.given (c.in-Ok.ensures.1 report), (c.requires.within.0, c.in-Ok.ensures.0))

pub returns-in-Err : goal.returns-in-Err
returns-in-Err c =
    let run = c.args.run.now in
    let report : Known → Driving → List ℕ → Response = profile_response run.extent (behind_in run.behind) in
    subst (λ s. IsRefused (LinesReported IsFaultDiagnostic (map string_bytes run.files.now) s run.placing (texts_in c.args.texts.now) report) c.in-Err.refusal) c.given_for-given.ensures.given (c.in-Err.ensures report)

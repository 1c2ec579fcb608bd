use Rattle.std.proofs.Common.{◌≡◌, subst, sym, ℕ, List, Some, None}
use Rattle.kc_kit_files.specs.Response.{Response, IsRefused}
use Rattle.kc_kit_inputs.specs.declared.driving.Driving.{Driving}
use Rattle.kc_kit_words.specs.Commands.{Behind}
use Rattle.kc_kit_words.specs.Inputs.{inputs_in}
use Rattle.kc_kit_inputs.specs.Driving.{given_for}
use Rattle.kc_kit_messages.proofs.Words.{texts_in}
use Rattle.kc_kit_running.specs.Profiled.{Known, none_known, profile_response}
use Rattle.kc_kit_running.specs.Sources.{no_lines}
use Rattle.kc_kit_answer.specs.Hex.{HexReported}
use Rattle.kc_kit_answer.proofs.profile.profile_hex.Goals as goal

pub returns-in-Ok : goal.returns-in-Ok
returns-in-Ok c =
    let run = c.args.run.now in
    let behind : Behind = record { profile = Some run.out.now; cover = None } in
    let report : Driving → List ℕ → Response = profile_response run.extent behind none_known in
    let reported = subst (λ s. HexReported run.file.now s c.args.text.now report (report c.in-Ok.board.driving c.in-Ok.board.image)) c.given_for-given.ensures.given (c.in-Ok.ensures report) in
    let same : none_known ≡ record { entries = c.new.result.items; sources = c.new-in-Ok.result.items; lines = no_lines } = λ i. record { entries = sym c.new.ensures.items i; sources = sym c.new-in-Ok.ensures.items i; lines = no_lines } in
    (subst (λ (k : Known). HexReported run.file.now (given_for (inputs_in run.inputs) (texts_in c.args.inputs.now)) c.args.text.now report (profile_response run.extent behind k c.in-Ok.board.driving c.in-Ok.board.image)) same reported, (c.requires.bounded, tt))

pub returns-in-Err : goal.returns-in-Err
returns-in-Err c =
    let run = c.args.run.now in
    let report : Driving → List ℕ → Response = profile_response run.extent (record { profile = Some run.out.now; cover = None }) none_known in
    subst (λ s. IsRefused (HexReported run.file.now s c.args.text.now report) c.in-Err.refusal) c.given_for-given.ensures.given (c.in-Err.ensures report)

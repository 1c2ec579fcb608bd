use Rattle.std.proofs.Common.{subst, ℕ, List}
use Rattle.kc_kit_files.specs.Response.{Response, IsRefused}
use Rattle.kc_kit_inputs.specs.declared.driving.Driving.{Driving}
use Rattle.kc_kit_answer.specs.Hex.{HexReported}
use Rattle.kc_kit_running.specs.Lives.{board_response}
use Rattle.kc_kit_running.specs.Sources.{no_lines}
use Rattle.kc_kit_answer.proofs.run_hex.run_text.Goals as goal

pub returns-in-Ok : goal.returns-in-Ok
returns-in-Ok c =
    let run = c.args.run.now in
    let report : Driving → List ℕ → Response = board_response no_lines run.extent in
    (subst (λ s. HexReported run.file.now s c.args.text.now report (report c.in-Ok.board.driving c.in-Ok.board.image)) c.given_for-given.ensures.given (c.in-Ok.ensures report), (c.requires.bounded, tt))

pub returns-in-Err : goal.returns-in-Err
returns-in-Err c =
    let run = c.args.run.now in
    let report : Driving → List ℕ → Response = board_response no_lines run.extent in
    subst (λ s. IsRefused (HexReported run.file.now s c.args.text.now report) c.in-Err.refusal) c.given_for-given.ensures.given (c.in-Err.ensures report)

use Rattle.std.proofs.Common.{map, string_bytes}
use Rattle.kc_kit_inputs.specs.Driving.{given_in}
use Rattle.kc_kit_answer.specs.Places.{Placing}
use Rattle.kc_kit_answer.specs.Run.{Driven, FilledReported}
use Rattle.kc_kit_answer.proofs.AnswerSteps.{board-widen}
use Rattle.kc_kit_answer.proofs.LinkLemmas.{placing-ok, placing-refused}
use Rattle.kc_kit_answer.proofs.board.board_of_modules.Goals as goal

pub board_at-requires-clause-placed : goal.board_at-requires-clause-placed
board_at-requires-clause-placed c = record { ranges = c.args.placing.now; in_bounds = c.requires.linkable.bounds; placement = c.in-Ok.ensures }

pub returns-in-Ok : goal.returns-in-Ok
returns-in-Ok c =
    let names = map string_bytes c.args.names.now in
    let given = given_in c.args.given in
    let ranges = c.args.placing.now in
    let ms = c.args.modules.now in
    let places = c.in-Ok.placement.places in
    board-widen (λ report. Driven given FilledReported report ms places) (λ report. Placing names ranges (Driven given FilledReported report) ms) c.board_at.result
    (λ report r m. placing-ok names ranges (Driven given FilledReported report) ms places r c.in-Ok.ensures.0 m) c.board_at.ensures

pub returns-in-Err : goal.returns-in-Err
returns-in-Err c = λ report. placing-refused (map string_bytes c.args.names.now) c.args.placing.now (Driven (given_in c.args.given) FilledReported report) c.args.modules.now c.in-Err.refusal c.in-Err.ensures

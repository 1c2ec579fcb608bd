use Rattle.std.proofs.Common.{◌≡◌, ◌≤◌, ◌∙◌, ℕ, Option, ap, sym, subst}
use Rattle.std.specs.Prelude.{IfSome}
use Rattle.kc_kit_files.specs.Response.{Response}
use Rattle.kc_kit_files.proofs.EndLemmas.{Ends-widen}
use Rattle.kc_kit_running.specs.Sources.{lines_in}
use Rattle.kc_kit_running.specs.Lives.{board_lives, lives_response, response_over, board_response}
use Rattle.kc_kit_running.specs.Running.{run_response, run_of}
use Rattle.kc_kit_running.proofs.image_run.run_board.Goals as goal

pub run_board_lives-requires-clause-some : goal.run_board_lives-requires-clause-some
run_board_lives-requires-clause-some g c = subst (λ (o : Option ℕ). IfSome o (λ n. 1 ≤ n)) c.in-Some.is c.requires.bounded.some

pub run_board_lives-requires-clause-few : goal.run_board_lives-requires-clause-few
run_board_lives-requires-clause-few g c = subst (λ (o : Option ℕ). IfSome o (λ n. n ≤ 1000)) c.in-Some.is c.requires.bounded.few

pub returns-in-None : goal.returns-in-None
returns-in-None g c = λ files.
    let extent = c.args.extent in
    let board = c.args.board in
    let lines = lines_in c.args.sources.now in
    Ends-widen (λ (response : Response). response ≡ run_response lines (run_of extent.states board.driving board.image)) (λ (response : Response). response ≡ board_response lines extent board.driving board.image) _ _
    c.run_once.result.status c.run_once.result.said _ _ (λ r e. e ∙ sym (ap (λ (lives : Option ℕ). response_over lines lives extent.states board.driving board.image) c.in-None.is)) (c.run_once.ensures files)

pub returns-in-Some : goal.returns-in-Some
returns-in-Some g c = λ files.
    let extent = c.args.extent in
    let board = c.args.board in
    let lines = lines_in c.args.sources.now in
    Ends-widen (λ (response : Response). response ≡ lives_response lines (board_lives c.in-Some.lives extent.states board.driving board.image)) (λ (response : Response). response ≡ board_response lines extent board.driving board.image) _ _
    c.run_board_lives.result.status c.run_board_lives.result.said _ _ (λ r e. e ∙ sym (ap (λ (lives : Option ℕ). response_over lines lives extent.states board.driving board.image) c.in-Some.is)) (c.run_board_lives.ensures files)

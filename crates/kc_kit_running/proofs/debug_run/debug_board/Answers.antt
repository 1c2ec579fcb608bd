use Rattle.std.proofs.Common.{◌≡◌, ◌≤◌, ◌∙◌, ℕ, Option, ap, sym, subst}
use Rattle.std.specs.Prelude.{IfSome}
use Rattle.kc_kit_files.specs.Response.{Response}
use Rattle.kc_kit_files.proofs.EndLemmas.{Ends-widen}
use Rattle.kc_kit_running.specs.Scripted.{debugged_by, debugged_in_lives, debugger_response, lives_script_response, script_response}
use Rattle.kc_kit_running.proofs.debug_run.debug_board.Goals as goal

pub debug_in_lives-requires-clause-some : goal.debug_in_lives-requires-clause-some
debug_in_lives-requires-clause-some g c = subst (λ (o : Option ℕ). IfSome o (λ n. 1 ≤ n)) c.in-Some.is c.requires.lives.some

pub returns-in-None : goal.returns-in-None
returns-in-None g c = λ files.
    let board = c.args.board in
    Ends-widen (λ (response : Response). response ≡ script_response (debugged_by c.args.lines c.args.script.now board.driving board.image)) (λ (response : Response). response ≡ debugger_response c.args.lives c.args.lines c.args.script.now board.driving board.image) _ _
    c.debug_once.result.status c.debug_once.result.said _ _ (λ r e. e ∙ sym (ap (λ (lives : Option ℕ). debugger_response lives c.args.lines c.args.script.now board.driving board.image) c.in-None.is)) (c.debug_once.ensures files)

pub returns-in-Some : goal.returns-in-Some
returns-in-Some g c = λ files.
    let board = c.args.board in
    Ends-widen (λ (response : Response). response ≡ lives_script_response (debugged_in_lives c.in-Some.most c.args.lines c.args.script.now board.driving board.image)) (λ (response : Response). response ≡ debugger_response c.args.lives c.args.lines c.args.script.now board.driving board.image) _ _
    c.debug_in_lives.result.status c.debug_in_lives.result.said _ _ (λ r e. e ∙ sym (ap (λ (lives : Option ℕ). debugger_response lives c.args.lines c.args.script.now board.driving board.image) c.in-Some.is)) (c.debug_in_lives.ensures files)

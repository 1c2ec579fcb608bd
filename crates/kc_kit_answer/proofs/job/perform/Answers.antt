use Rattle.std.proofs.Common.{◌≡◌, ◌∷◌, ◌++◌, ◌∙◌, ap, sym}
use Rattle.kc_kit_files.specs.Response.{Response, reports}
use Rattle.kc_kit_files.specs.Outside.{kept, shown}
use Rattle.kc_kit_words.specs.Asked.{behind_in}
use Rattle.kc_kit_running.specs.Scripted.{debugger_response}
use Rattle.kc_kit_running.specs.Sources.{lines_in}
use Rattle.kc_kit_running.specs.Writing.{written}
use Rattle.kc_kit_answer.specs.Hex.{ListingOf}
use Rattle.kc_kit_answer.specs.Jobs.{does, maybe_written, status_of}
use Rattle.kc_kit_running.specs.Counted.{summary_of}
use Rattle.kc_kit_running.specs.Lives.{board_response}
use Rattle.kc_kit_running.specs.Profiled.{known, profile_response}
use Rattle.kc_kit_files.proofs.EndLemmas.{Ends-widen}
use Rattle.kc_kit_answer.proofs.WriteLemmas.{ends-written}
use Rattle.kc_kit_answer.proofs.job.perform.Goals as goal

pub returns-in-Run-clause-answer : goal.returns-in-Run-clause-answer
returns-in-Run-clause-answer g c =
    Ends-widen (λ (response : Response). response ≡ board_response (lines_in c.in-Run.sources) c.in-Run.extent c.in-Run.board.driving c.in-Run.board.image) (λ (response : Response). response ≡ does c.args.job) _ _
    c.run_of_board.result.status c.run_of_board.result.said _ _ (λ r k. k ∙ sym (ap does c.in-Run.is)) (c.run_of_board.ensures (kept (g.F.Files.held c.args.files.now) (g.F.Files.write_faults c.args.files.now)))

pub returns-in-Count-clause-answer : goal.returns-in-Count-clause-answer
returns-in-Count-clause-answer g c =
    Ends-widen (λ (response : Response). response ≡ summary_of c.in-Count.number c.in-Count.board.driving c.in-Count.board.image) (λ (response : Response). response ≡ does c.args.job) _ _
    c.count_board.result.status c.count_board.result.said _ _ (λ r k. k ∙ sym (ap does c.in-Count.is)) (c.count_board.ensures (kept (g.F.Files.held c.args.files.now) (g.F.Files.write_faults c.args.files.now)))

pub returns-in-List-clause-answer : goal.returns-in-List-clause-answer
returns-in-List-clause-answer g c =
    Ends-widen (ListingOf c.in-List.first c.in-List.last c.in-List.image) (λ (response : Response). response ≡ does c.args.job) _ _ c.listing_of_image.result.status c.listing_of_image.result.said _ _ (λ r k. k ∙ sym (ap does c.in-List.is))
    (c.listing_of_image.ensures (kept (g.F.Files.held c.args.files.now) (g.F.Files.write_faults c.args.files.now)))

pub returns-in-Debug-clause-answer : goal.returns-in-Debug-clause-answer
returns-in-Debug-clause-answer g c =
    Ends-widen (λ (response : Response). response ≡ debugger_response c.in-Debug.lives c.in-Debug.lines c.in-Debug.script c.in-Debug.board.driving c.in-Debug.board.image) (λ (response : Response). response ≡ does c.args.job) _ _
    c.script_of_board.result.status c.script_of_board.result.said _ _ (λ r k. k ∙ sym (ap does c.in-Debug.is)) (c.script_of_board.ensures (kept (g.F.Files.held c.args.files.now) (g.F.Files.write_faults c.args.files.now)))

pub returns-in-Report-clause-answer : goal.returns-in-Report-clause-answer
returns-in-Report-clause-answer g c =
    let verdict = c.in-Report.verdict in
    Ends-widen (λ (response : Response). response ≡ reports (status_of verdict.is_broken) verdict.text.items verdict.diagnostic.items) (λ (response : Response). response ≡ does c.args.job) _ _
    c.report_verdict.result.status c.report_verdict.result.said _ _ (λ r k. k ∙ sym (ap does c.in-Report.is))
    (c.report_verdict.ensures (kept (g.F.Files.held c.args.files.now) (g.F.Files.write_faults c.args.files.now)))

pub returns-in-Write-clause-answer : goal.returns-in-Write-clause-answer
returns-in-Write-clause-answer g c =
    ends-written _ _ (shown (g.S.Sink.written c.args.out.now.sink) (g.S.Sink.faults c.args.out.now.sink)) (written c.in-Write.file ∷ maybe_written c.in-Write.lines ++ maybe_written c.in-Write.map) c.write_files.result
    (λ (response : Response). response ≡ does c.args.job) (sym (ap does c.in-Write.is)) c.write_files.ensures.written

pub returns-in-Profile-clause-answer : goal.returns-in-Profile-clause-answer
returns-in-Profile-clause-answer g c =
    Ends-widen (λ (response : Response). response ≡ profile_response c.in-Profile.extent (behind_in c.in-Profile.behind) (known c.in-Profile.lines) c.in-Profile.board.driving c.in-Profile.board.image) (λ (response : Response). response ≡ does c.args.job) _ _
    c.profile_of_board.result.status c.profile_of_board.result.said _ _ (λ r k. k ∙ sym (ap does c.in-Profile.is)) c.profile_of_board.ensures.response

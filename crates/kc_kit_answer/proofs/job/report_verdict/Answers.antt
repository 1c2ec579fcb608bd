use Rattle.std.proofs.Common.{◌≡◌, sym, ◌∙◌, ap}
use Rattle.kc_kit_files.specs.Response.{Response, reports}
use Rattle.kc_kit_files.specs.Outside.{shown_by}
use Rattle.kc_kit_files.proofs.EndLemmas.{Ends-widen}
use Rattle.kc_kit_answer.specs.Jobs.{status_of}
use Rattle.kc_kit_answer.proofs.job.report_verdict.Goals.{then-is_broken, else-is_broken}
use Rattle.kc_kit_answer.proofs.job.report_verdict.Goals as goal

pub returns : goal.returns
returns g c =
    let verdict = c.args.verdict in
    let same : c.if-is_broken.status ≡ status_of verdict.is_broken = elim c.if-is_broken.branch [
      | then-is_broken w ↦ w.status-is ∙ sym (ap status_of w.if-is_broken.true)
      | else-is_broken w ↦ w.status-is ∙ sym (ap status_of w.if-is_broken.false)
    ] in
    let all : reports c.if-is_broken.status c.deref.result.now verdict.diagnostic.items ≡ reports (status_of verdict.is_broken) verdict.text.items verdict.diagnostic.items =
    λ i. reports (same i) (c.deref.ensures.value i) verdict.diagnostic.items in
    λ files. Ends-widen (λ (response : Response). response ≡ reports c.if-is_broken.status c.deref.result.now verdict.diagnostic.items)
    (λ (response : Response). response ≡ reports (status_of verdict.is_broken) verdict.text.items verdict.diagnostic.items) files (shown_by g.S.Sink.written g.S.Sink.faults c.args.out.now.sink) c.report.result.status c.report.result.said files
    (shown_by g.S.Sink.written g.S.Sink.faults c.report.new.out.sink) (λ r k. k ∙ all) (c.report.ensures.response files)

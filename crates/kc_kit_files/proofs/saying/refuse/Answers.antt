use Rattle.std.proofs.Common.{◌≡◌, ◌∙◌, ap, sym, subst}
use Rattle.kc_kit_files.specs.Response.{Response, reports, status_for, IsSaid}
use Rattle.kc_kit_files.proofs.EndLemmas.{Ends-widen}
use Rattle.kc_kit_files.proofs.saying.refuse.Goals as goal

pub returns-in-Says-clause-response : goal.returns-in-Says-clause-response
returns-in-Says-clause-response g c = λ files.
    let diagnostic = c.in-Says.diagnostic.items in
    Ends-widen (λ (response : Response). response ≡ reports c.status.result c.deref.result.now diagnostic) (IsSaid c.args.refusal) files _ _ _ files _
    (λ r e. subst (λ w. IsSaid w r) (sym c.in-Says.is) (e ∙ ap (λ s. reports s c.deref.result.now diagnostic) c.status.ensures.status ∙ ap (λ t. reports (status_for c.in-Says.cause) t diagnostic) c.deref.ensures.value))
    (c.report.ensures.response files)

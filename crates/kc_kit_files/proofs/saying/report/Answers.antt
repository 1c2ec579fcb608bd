use Rattle.std.proofs.Common.{◌≡◌, ap}
use Rattle.kc_kit_files.specs.declared.ended.Said.TheVariants as said
use Rattle.kc_kit_files.specs.Response.{Response, reports}
use Rattle.kc_kit_files.proofs.EndLemmas.{Ends-printed}
use Rattle.kc_kit_files.proofs.saying.report.Goals as goal

pub returns-clause-response : goal.returns-clause-response
returns-clause-response g c = λ files.
    let diagnostic = c.args.diagnostic.items in
    Ends-printed (λ (response : Response). response ≡ reports c.args.status c.args.text.now diagnostic) files _ _ (said.Refusal c.args.diagnostic) files _ tt
    (λ r e. ap (λ (k : Response). k.writes) e) (λ r e. ap (λ (k : Response). k.diagnostic) e) (c.print-status.ensures.response diagnostic files)

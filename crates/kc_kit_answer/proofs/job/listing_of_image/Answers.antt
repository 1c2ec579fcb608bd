use Rattle.std.proofs.Common.{ap}
use Rattle.kc_kit_files.specs.Response.{Response}
use Rattle.kc_kit_files.proofs.EndLemmas.{ends-by}
use Rattle.kc_kit_answer.specs.Hex.{ListingOf}
use Rattle.kc_kit_answer.proofs.job.listing_of_image.Goals as goal

pub returns : goal.returns
returns g c = λ files.
    ends-by (ListingOf c.args.first c.args.last c.args.image) files _ c.by.result c.list_image.result files _ c.by.ensures.status c.by.ensures.said (λ r e. ap (λ (w : Response). w.writes) e) (λ r e. ap (λ (w : Response). w.diagnostic) e) (c.list_image.ensures files)

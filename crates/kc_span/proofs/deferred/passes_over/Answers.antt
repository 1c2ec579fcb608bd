use Rattle.kc_span.proofs.DeferredUnits.{passes_over}
use Rattle.kc_span.proofs.deferred.passes_over.Goals as goal

pub returns : goal.returns
returns g c = passes_over

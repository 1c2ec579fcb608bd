use Rattle.kc_span.proofs.DeferredUnits.{waits}
use Rattle.kc_span.proofs.deferred.waits_up_to_due.Goals as goal

pub returns : goal.returns
returns g c = waits

use Rattle.kc_span.proofs.DeferredUnits.{lent}
use Rattle.kc_span.proofs.deferred.lent_quietly.Goals as goal

pub returns : goal.returns
returns g c = lent

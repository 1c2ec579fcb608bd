use Rattle.kc_span.proofs.DeferredUnits.{calm}
use Rattle.kc_span.proofs.deferred.calm_before_due.Goals as goal

pub returns : goal.returns
returns g c = calm

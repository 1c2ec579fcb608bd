use Rattle.kc_span.proofs.DeferredUnits.{event}
use Rattle.kc_span.proofs.deferred.event_at_due.Goals as goal

pub returns : goal.returns
returns g c = event

use Rattle.kc_span.proofs.DeferredUnits.{next}
use Rattle.kc_span.proofs.deferred.next_state.Goals as goal

pub returns : goal.returns
returns g c = next

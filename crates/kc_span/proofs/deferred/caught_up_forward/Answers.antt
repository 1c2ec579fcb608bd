use Rattle.kc_span.proofs.DeferredUnits.{caught_up, caught_up_shows}
use Rattle.kc_span.proofs.deferred.caught_up_forward.Goals as goal

pub returns-clause-due : goal.returns-clause-due
returns-clause-due g c = caught_up

pub returns-clause-shows : goal.returns-clause-shows
returns-clause-shows g c = caught_up_shows

use Rattle.kc_span.proofs.DeferredUnits.{asked, asked_shows}
use Rattle.kc_span.proofs.deferred.rescheduled.Goals as goal

pub returns-clause-due : goal.returns-clause-due
returns-clause-due g c = asked

pub returns-clause-shows : goal.returns-clause-shows
returns-clause-shows g c = asked_shows

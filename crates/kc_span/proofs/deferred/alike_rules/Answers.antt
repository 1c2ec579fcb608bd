use Rattle.kc_span.proofs.DeferredUnits.{alike, alike_shows}
use Rattle.kc_span.proofs.deferred.alike_rules.Goals as goal

pub returns-clause-due : goal.returns-clause-due
returns-clause-due g c = alike

pub returns-clause-shows : goal.returns-clause-shows
returns-clause-shows g c = alike_shows

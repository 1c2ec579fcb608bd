use Rattle.kc_events.proofs.TraceLemmas.{traces_are_read}
use Rattle.kc_events.proofs.laws.traces_are_read.Goals as goal

pub returns : goal.returns
returns c = traces_are_read

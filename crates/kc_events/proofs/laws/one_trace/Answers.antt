use Rattle.kc_events.proofs.TraceLemmas.{one_trace}
use Rattle.kc_events.proofs.laws.one_trace.Goals as goal

pub returns : goal.returns
returns c = one_trace

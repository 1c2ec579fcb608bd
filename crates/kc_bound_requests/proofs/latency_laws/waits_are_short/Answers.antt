use Rattle.kc_bound_requests.proofs.Gaps.{waits-short}
use Rattle.kc_bound_requests.proofs.latency_laws.waits_are_short.Goals as goal

pub returns : goal.returns
returns g c = waits-short c.highest_is_entered.ensures c.gaps_are_short.ensures

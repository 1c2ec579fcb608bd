use Rattle.kc_bound_requests.proofs.Gaps.{gaps-short}
use Rattle.kc_bound_requests.proofs.latency_laws.gaps_are_short.Goals as goal

pub returns : goal.returns
returns g c = gaps-short c.found_is_decoded.ensures c.states_are_most.ensures c.states_are_some.ensures c.turn_is_paid.ensures

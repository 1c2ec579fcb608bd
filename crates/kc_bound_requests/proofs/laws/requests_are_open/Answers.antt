use Rattle.kc_bound_requests.proofs.Passes.{requests-open}
use Rattle.kc_bound_requests.proofs.laws.requests_are_open.Goals as goal

pub returns : goal.returns
returns g c = requests-open c.found_is_decoded.ensures c.states_are_some.ensures

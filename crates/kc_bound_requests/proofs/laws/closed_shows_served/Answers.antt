use Rattle.kc_bound_requests.proofs.Passes.{closed-shows-served}
use Rattle.kc_bound_requests.proofs.laws.closed_shows_served.Goals as goal

pub returns : goal.returns
returns g c = closed-shows-served c.found_is_decoded.ensures c.states_are_some.ensures

use Rattle.kc_bound_requests.proofs.Passes.{own-if-no-nmi}
use Rattle.kc_bound_requests.proofs.laws.own_if_no_nmi.Goals as goal

pub returns : goal.returns
returns g c = own-if-no-nmi c.found_is_decoded.ensures c.states_are_some.ensures

use Rattle.kc_bound_requests.proofs.Sets.{first-sets}
use Rattle.kc_bound_requests.proofs.laws.first_sets_are.Goals as goal

pub returns : goal.returns
returns c = first-sets

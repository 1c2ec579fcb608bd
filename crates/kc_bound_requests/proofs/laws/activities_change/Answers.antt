use Rattle.kc_bound_requests.proofs.Activity.{activities-change}
use Rattle.kc_bound_requests.proofs.laws.activities_change.Goals as goal

pub returns : goal.returns
returns g c = activities-change

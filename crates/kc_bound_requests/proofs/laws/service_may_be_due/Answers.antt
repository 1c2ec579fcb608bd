use Rattle.kc_bound_requests.proofs.Services.{service-due}
use Rattle.kc_bound_requests.proofs.laws.service_may_be_due.Goals as goal

pub returns : goal.returns
returns g c = service-due

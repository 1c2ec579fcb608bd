use Rattle.kc_bound_requests.proofs.Services.{no-service}
use Rattle.kc_bound_requests.proofs.laws.no_service_is_due.Goals as goal

pub returns : goal.returns
returns g c = no-service

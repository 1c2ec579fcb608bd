use Rattle.kc_bound_requests.proofs.Choice.{highest-entered}
use Rattle.kc_bound_requests.proofs.latency_laws.highest_is_entered.Goals as goal

pub returns : goal.returns
returns g c = highest-entered

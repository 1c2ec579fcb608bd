use Rattle.kc_bound_requests.proofs.Entries.{routines-begin}
use Rattle.kc_bound_requests.proofs.latency_laws.routines_begin.Goals as goal

pub returns : goal.returns
returns g c = routines-begin

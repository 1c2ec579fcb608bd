use Rattle.kc_bound_requests.proofs.Entries.{entries-short}
use Rattle.kc_bound_requests.proofs.latency_laws.entries_are_short.Goals as goal

pub returns : goal.returns
returns g c = entries-short

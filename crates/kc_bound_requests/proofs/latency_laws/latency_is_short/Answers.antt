use Rattle.kc_bound_requests.proofs.Entries.{latency-short}
use Rattle.kc_bound_requests.proofs.latency_laws.latency_is_short.Goals as goal

pub returns : goal.returns
returns g c = latency-short c.found_is_decoded.ensures c.states_are_some.ensures c.highest_is_entered.ensures c.waits_are_short.ensures c.entries_are_short.ensures c.routines_begin.ensures

use Rattle.kc_kit_laws.proofs.ToldLemmas.{bound_is_told}
use Rattle.kc_kit_laws.proofs.bound_is_told.Goals as goal

pub returns : goal.returns
returns g c = bound_is_told c.certified_is_bounded.ensures c.closed_shows_served.ensures c.gaps_are_short.ensures c.waits_are_short.ensures c.latency_is_short.ensures

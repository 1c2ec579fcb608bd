use Rattle.kc_profile.proofs.SpreadsOf.{spreads-are}
use Rattle.kc_profile.proofs.laws.spreads_are_of_all.Goals as goal

pub returns : goal.returns
returns c = spreads-are

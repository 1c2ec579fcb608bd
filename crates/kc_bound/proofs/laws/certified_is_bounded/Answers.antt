use Rattle.kc_bound.proofs.Passes.{certified-bounded}
use Rattle.kc_bound.proofs.laws.certified_is_bounded.Goals as goal

pub returns : goal.returns
returns g c = certified-bounded

use Rattle.kc_bound.proofs.Positive.{states-some}
use Rattle.kc_bound.proofs.laws.states_are_some.Goals as goal

pub returns : goal.returns
returns c = states-some

use Rattle.kc_bound.proofs.Prices.{turn}
use Rattle.kc_bound.proofs.laws.turn_is_paid.Goals as goal

pub returns : goal.returns
returns c = turn

use Rattle.kc_intc.proofs.Greatest.{greatest_is}
use Rattle.kc_intc.proofs.laws.greatest_is_greatest.Goals as goal

pub returns : goal.returns
returns c = greatest_is

use Rattle.kc_intc.proofs.Changed.{lost, got}
use Rattle.kc_intc.proofs.laws.bits_of_changed_sets.Goals as goal

pub returns : goal.returns
returns c = λ n set within. (lost n set within, got n set within)

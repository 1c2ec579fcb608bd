use Rattle.kc_bound.proofs.States.{place-most}
use Rattle.kc_bound.proofs.laws.states_are_most.Goals as goal

pub returns : goal.returns
returns c = place-most

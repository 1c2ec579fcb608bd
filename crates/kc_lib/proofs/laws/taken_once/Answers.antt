use Rattle.kc_lib.proofs.StandingLemmas.{taken_once}
use Rattle.kc_lib.proofs.laws.taken_once.Goals as goal

pub returns : goal.returns
returns c = taken_once

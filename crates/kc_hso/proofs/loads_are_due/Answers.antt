use Rattle.kc_hso.proofs.Loading.{loads_due}
use Rattle.kc_hso.proofs.loads_are_due.Goals as goal

pub returns : goal.returns
returns c = loads_due

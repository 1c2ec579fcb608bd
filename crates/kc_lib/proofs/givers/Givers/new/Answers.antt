use Rattle.kc_lib.proofs.GiverLemmas.{knows_none}
use Rattle.kc_lib.proofs.givers.Givers.new.Goals as goal

pub returns : goal.returns
returns c = knows_none c.new.result.entries c.new.ensures.empty

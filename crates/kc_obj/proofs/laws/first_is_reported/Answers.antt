use Rattle.kc_obj.proofs.FirstReported.{first_reported}
use Rattle.kc_obj.proofs.laws.first_is_reported.Goals as goal

pub returns : goal.returns
returns c = first_reported

use Rattle.kc_obj.proofs.Spelled.{spelled_decoded}
use Rattle.kc_obj.proofs.laws.spelled_is_decoded.Goals as goal

pub returns : goal.returns
returns c = spelled_decoded

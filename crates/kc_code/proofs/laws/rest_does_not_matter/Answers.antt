use Rattle.kc_code.proofs.Beginnings.{rest_is_free}
use Rattle.kc_code.proofs.laws.rest_does_not_matter.Goals as goal

pub returns : goal.returns
returns c = rest_is_free

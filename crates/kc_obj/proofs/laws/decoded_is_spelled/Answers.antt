use Rattle.kc_obj.proofs.Decoded.{decoded_spelled}
use Rattle.kc_obj.proofs.laws.decoded_is_spelled.Goals as goal

pub returns : goal.returns
returns c = decoded_spelled

use Rattle.kc_asm_encode.proofs.Spelled.{filled_is_spelled}
use Rattle.kc_asm_encode.proofs.laws.filled_is_spelled.Goals as goal

pub returns : goal.returns
returns c = filled_is_spelled

use Rattle.kc_asm_encode.proofs.Opposites.{conditions_are_opposite}
use Rattle.kc_asm_encode.proofs.inverse.conditions_are_opposite.Goals as goal

pub returns : goal.returns
returns c = conditions_are_opposite

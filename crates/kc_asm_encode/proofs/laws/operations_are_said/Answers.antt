use Rattle.kc_asm_encode.proofs.Saying.{operations_are_said}
use Rattle.kc_asm_encode.proofs.laws.operations_are_said.Goals as goal

pub returns : goal.returns
returns c = operations_are_said

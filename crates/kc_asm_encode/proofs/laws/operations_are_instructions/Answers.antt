use Rattle.kc_asm_encode.proofs.Operations.{operations_are_instructions}
use Rattle.kc_asm_encode.proofs.laws.operations_are_instructions.Goals as goal

pub returns : goal.returns
returns c = operations_are_instructions

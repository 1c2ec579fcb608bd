use Rattle.kc_asm_encode.proofs.Opposites.{tests_are_opposite}
use Rattle.kc_asm_encode.proofs.inverse.tests_are_opposite.Goals as goal

pub returns : goal.returns
returns c = tests_are_opposite

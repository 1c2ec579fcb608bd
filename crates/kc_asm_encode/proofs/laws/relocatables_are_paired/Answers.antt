use Rattle.kc_asm_encode.proofs.Paired.{relocatables_are_paired}
use Rattle.kc_asm_encode.proofs.laws.relocatables_are_paired.Goals as goal

pub returns : goal.returns
returns c = relocatables_are_paired

use Rattle.kc_asm_encode.proofs.Stays.{length_stays}
use Rattle.kc_asm_encode.proofs.laws.length_stays.Goals as goal

pub returns : goal.returns
returns c = length_stays

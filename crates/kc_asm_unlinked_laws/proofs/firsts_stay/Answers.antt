use Rattle.kc_asm_unlinked_laws.proofs.Appending.{firsts_stay}
use Rattle.kc_asm_unlinked_laws.proofs.firsts_stay.Goals as goal

pub returns : goal.returns
returns c = firsts_stay

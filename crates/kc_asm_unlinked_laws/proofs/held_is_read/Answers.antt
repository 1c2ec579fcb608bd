use Rattle.kc_asm_unlinked_laws.proofs.Reading.{held_is_read}
use Rattle.kc_asm_unlinked_laws.proofs.held_is_read.Goals as goal

pub returns : goal.returns
returns c = held_is_read

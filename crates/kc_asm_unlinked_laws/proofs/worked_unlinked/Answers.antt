use Rattle.kc_asm_unlinked_laws.proofs.Row.{worked_unlinked}
use Rattle.kc_asm_unlinked_laws.proofs.worked_unlinked.Goals as goal

pub returns : goal.returns
returns c = worked_unlinked

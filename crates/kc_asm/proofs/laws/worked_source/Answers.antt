use Rattle.kc_asm.proofs.Row.{worked_source}
use Rattle.kc_asm.proofs.laws.worked_source.Goals as goal

pub returns : goal.returns
returns c = worked_source

use Rattle.kc_asm_layout.proofs.Reach.{reach}
use Rattle.kc_asm_layout.proofs.laws.branches_reach.Goals as goal

pub returns : goal.returns
returns c = reach

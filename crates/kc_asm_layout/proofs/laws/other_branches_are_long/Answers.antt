use Rattle.kc_asm_layout.proofs.Reach.{others_long}
use Rattle.kc_asm_layout.proofs.laws.other_branches_are_long.Goals as goal

pub returns : goal.returns
returns c = others_long

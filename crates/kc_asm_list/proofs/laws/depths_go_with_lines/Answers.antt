use Rattle.kc_asm_list.proofs.Agreement.{all_agree}
use Rattle.kc_asm_list.proofs.laws.depths_go_with_lines.Goals as goal

pub returns : goal.returns
returns c = all_agree c.expansion_ends.ensures

use Rattle.kc_asm_list.proofs.Plain.{plain_lines_stand_at_none}
use Rattle.kc_asm_list.proofs.laws.plain_lines_stand_at_none.Goals as goal

pub returns : goal.returns
returns c = plain_lines_stand_at_none

use Rattle.kc_asm_section.proofs.Writing.{put_there}
use Rattle.kc_asm_section.proofs.laws.put_stands.Goals as goal

pub returns : goal.returns
returns c = put_there

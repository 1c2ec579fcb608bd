use Rattle.kc_asm_section.proofs.Writing.{written_there}
use Rattle.kc_asm_section.proofs.laws.written_stands.Goals as goal

pub returns : goal.returns
returns c = written_there

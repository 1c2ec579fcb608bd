use Rattle.kc_asm_section.proofs.Counting.{few}
use Rattle.kc_asm_section.proofs.module_laws.few_pieces.Goals as goal

pub returns : goal.returns
returns c = few

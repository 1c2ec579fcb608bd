use Rattle.kc_asm_section.proofs.Numbering.{numbers}
use Rattle.kc_asm_section.proofs.module_laws.numbers_stand.Goals as goal

pub returns : goal.returns
returns c = numbers

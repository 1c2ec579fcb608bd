use Rattle.kc_asm_section.proofs.Numbering.{alike}
use Rattle.kc_asm_section.proofs.module_laws.absolute_alike.Goals as goal

pub returns : goal.returns
returns c = alike

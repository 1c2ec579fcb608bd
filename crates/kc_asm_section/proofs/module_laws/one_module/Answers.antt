use Rattle.kc_asm_section.proofs.OneModule.{at_most_one}
use Rattle.kc_asm_section.proofs.module_laws.one_module.Goals as goal

pub returns : goal.returns
returns c = at_most_one

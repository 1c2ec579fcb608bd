use Rattle.kc_asm_laws.proofs.Alike.{one_module_of_text}
use Rattle.kc_asm_laws.proofs.modules.one_module_of_text.Goals as goal

pub returns : goal.returns
returns c = one_module_of_text c.one_module.ensures

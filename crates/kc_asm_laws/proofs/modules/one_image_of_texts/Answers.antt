use Rattle.kc_asm_laws.proofs.Images.{one_image_of_texts}
use Rattle.kc_asm_laws.proofs.modules.one_image_of_texts.Goals as goal

pub returns : goal.returns
returns c = one_image_of_texts c.one_module_of_text.ensures c.one_image.ensures

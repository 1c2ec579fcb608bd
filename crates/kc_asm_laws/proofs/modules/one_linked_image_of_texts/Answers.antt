use Rattle.kc_asm_laws.proofs.Images.{one_linked_image_of_texts}
use Rattle.kc_asm_laws.proofs.modules.one_linked_image_of_texts.Goals as goal

pub returns : goal.returns
returns c = one_linked_image_of_texts c.linked_is_filled.ensures c.one_image_of_texts.ensures

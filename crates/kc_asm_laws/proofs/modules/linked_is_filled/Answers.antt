use Rattle.kc_asm_laws.proofs.Images.{linked_is_filled}
use Rattle.kc_asm_laws.proofs.modules.linked_is_filled.Goals as goal

pub returns : goal.returns
returns c = linked_is_filled c.filled_are_bytes.ensures c.linked_image.ensures c.one_image.ensures c.placed_have_image.ensures

use Rattle.kc_asm_laws.proofs.Images.{filled_is_linked}
use Rattle.kc_asm_laws.proofs.modules.filled_is_linked.Goals as goal

pub returns : goal.returns
returns c = filled_is_linked c.filled_are_bytes.ensures c.linked_image.ensures c.sources_are_read_well.ensures

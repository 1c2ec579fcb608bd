use Rattle.kc_asm.proofs.Alone.{one_image_of_sources}
use Rattle.kc_asm.proofs.laws.one_image_of_sources.Goals as goal

pub returns : goal.returns
returns c = one_image_of_sources c.one_spelling.ensures c.one_module.ensures

use Rattle.kc_asm.proofs.OneImage.{one_image}
use Rattle.kc_asm.proofs.laws.one_image.Goals as goal

pub returns : goal.returns
returns c = one_image c.one_spelling.ensures

use Rattle.kc_link.proofs.Image.{placed_have_image}
use Rattle.kc_link.proofs.placed.placed_have_image.Goals as goal

pub returns : goal.returns
returns c = placed_have_image c.code_stands_apart.ensures

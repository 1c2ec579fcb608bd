use Rattle.kc_link.proofs.LawLemmas.{one_image}
use Rattle.kc_link.proofs.laws.one_image.Goals as goal

pub returns : goal.returns
returns c = one_image

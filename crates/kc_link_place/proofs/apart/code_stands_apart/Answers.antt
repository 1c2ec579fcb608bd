use Rattle.kc_link_place.proofs.ApartLemmas.{code_stands_apart}
use Rattle.kc_link_place.proofs.apart.code_stands_apart.Goals as goal

pub returns : goal.returns
returns c = code_stands_apart

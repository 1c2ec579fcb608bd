use Rattle.kc_link.proofs.LawLemmas.{relocations_fit}
use Rattle.kc_link.proofs.laws.relocations_fit.Goals as goal

pub returns : goal.returns
returns c = relocations_fit

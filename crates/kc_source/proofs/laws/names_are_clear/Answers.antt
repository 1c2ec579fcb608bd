use Rattle.kc_source.proofs.ClearLemmas.{names_are_clear}
use Rattle.kc_source.proofs.laws.names_are_clear.Goals as goal

pub returns : goal.returns
returns c = names_are_clear

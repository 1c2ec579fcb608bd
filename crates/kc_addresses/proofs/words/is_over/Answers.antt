use Rattle.kc_addresses.proofs.WordLemmas.{over}
use Rattle.kc_addresses.proofs.words.is_over.Goals as goal

pub returns-clause-words : goal.returns-clause-words
returns-clause-words c = over _ _ _ _ c.cut.ensures.words c.is_empty.ensures

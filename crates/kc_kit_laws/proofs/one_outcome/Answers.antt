use Rattle.kc_kit_laws.proofs.OutcomeLemmas.{one_outcome}
use Rattle.kc_kit_laws.proofs.one_outcome.Goals as goal

pub returns : goal.returns
returns c = one_outcome c.one_answer.ensures

use Rattle.kc_source_statement.proofs.FormedLemmas.{statements_are_formed}
use Rattle.kc_source_statement.proofs.laws.statements_are_formed.Goals as goal

pub returns : goal.returns
returns c = statements_are_formed

use Rattle.kc_source_statement.proofs.FormedLemmas.{names_stand_on_the_line}
use Rattle.kc_source_statement.proofs.laws.names_stand_on_the_line.Goals as goal

pub returns : goal.returns
returns c = names_stand_on_the_line

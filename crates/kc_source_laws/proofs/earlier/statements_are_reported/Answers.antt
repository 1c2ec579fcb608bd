use Rattle.kc_source_laws.proofs.Reporting.{statements_are_reported}
use Rattle.kc_source_laws.proofs.earlier.statements_are_reported.Goals as goal

pub returns : goal.returns
returns c = statements_are_reported c.names_stand_on_the_line.ensures

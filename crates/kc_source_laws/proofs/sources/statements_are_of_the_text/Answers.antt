use Rattle.kc_source_laws.proofs.Statements.{statements_are_of_the_text}
use Rattle.kc_source_laws.proofs.sources.statements_are_of_the_text.Goals as goal

pub returns : goal.returns
returns c = statements_are_of_the_text c.lines_are_of_the_text.ensures c.expansion_keeps_lines.ensures c.statements_keep_lines.ensures

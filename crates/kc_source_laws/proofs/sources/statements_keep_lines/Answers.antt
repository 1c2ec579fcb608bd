use Rattle.kc_source_laws.proofs.Statements.{statements_keep_lines}
use Rattle.kc_source_laws.proofs.sources.statements_keep_lines.Goals as goal

pub returns : goal.returns
returns c = statements_keep_lines c.operands_have_forms.ensures

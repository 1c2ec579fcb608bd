use Rattle.kc_source_statement.proofs.OperandLemmas.{operands_have_forms}
use Rattle.kc_source_statement.proofs.laws.operands_have_forms.Goals as goal

pub returns : goal.returns
returns c = operands_have_forms

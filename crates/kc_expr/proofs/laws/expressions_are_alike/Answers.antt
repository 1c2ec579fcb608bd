use Rattle.kc_expr.proofs.AlikeLemmas.{expressions_alike}
use Rattle.kc_expr.proofs.laws.expressions_are_alike.Goals as goal

pub returns : goal.returns
returns c = expressions_alike

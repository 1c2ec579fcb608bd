use Rattle.kc_expr.proofs.KnownLemmas.{answer_known}
use Rattle.kc_expr.proofs.laws.expressions_are_known.Goals as goal

pub returns : goal.returns
returns c = λ known fixed absolute look names x. answer_known known fixed absolute look names x

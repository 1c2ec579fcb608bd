use Rattle.kc_expr.proofs.Longest.{parsed_is_longest}
use Rattle.kc_expr.proofs.grammar.readings_are_longest.Goals as goal

pub returns : goal.returns
returns c = parsed_is_longest

use Rattle.kc_macro_laws.proofs.Course.{rewriting_keeps_the_answer}
use Rattle.kc_macro_laws.proofs.expansions.rewriting_keeps_the_answer.Goals as goal

pub returns : goal.returns
returns c = rewriting_keeps_the_answer

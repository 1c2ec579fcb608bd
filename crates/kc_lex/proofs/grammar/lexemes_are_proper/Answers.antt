use Rattle.kc_lex.proofs.ProperLemmas.{read_proper}
use Rattle.kc_lex.proofs.grammar.lexemes_are_proper.Goals as goal

pub returns : goal.returns
returns c = read_proper

use Rattle.kc_lex.proofs.ProperLemmas.{proper_read}
use Rattle.kc_lex.proofs.grammar.proper_lexemes_are_read.Goals as goal

pub returns : goal.returns
returns c = proper_read

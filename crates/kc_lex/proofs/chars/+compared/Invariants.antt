use Rattle.std.proofs.Common.{length}
use Rattle.kc_lex.proofs.chars.+compared.Given as goal

abbrev pub decreases-compared : goal.decreases-compared
decreases-compared l = length l.one.now

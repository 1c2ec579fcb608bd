use Rattle.kc_macro_laws.proofs.Exits.{exitm_ends_the_innermost}
use Rattle.kc_macro_laws.proofs.expansions.exitm_ends_the_innermost.Goals as goal

pub returns : goal.returns
returns c = exitm_ends_the_innermost

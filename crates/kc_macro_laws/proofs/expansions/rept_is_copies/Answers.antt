use Rattle.kc_macro_laws.proofs.Constructs.{rept_is_copies}
use Rattle.kc_macro_laws.proofs.expansions.rept_is_copies.Goals as goal

pub returns : goal.returns
returns c = rept_is_copies

use Rattle.kc_macro_laws.proofs.Constructs.{macro_is_defined}
use Rattle.kc_macro_laws.proofs.expansions.macro_is_defined.Goals as goal

pub returns : goal.returns
returns c = macro_is_defined

use Rattle.kc_macro_laws.proofs.Names.{locals_have_their_own_names}
use Rattle.kc_macro_laws.proofs.expansions.locals_have_their_own_names.Goals as goal

pub returns : goal.returns
returns c = locals_have_their_own_names

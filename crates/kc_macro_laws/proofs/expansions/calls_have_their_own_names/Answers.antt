use Rattle.kc_macro_laws.proofs.Names.{calls_have_their_own_names}
use Rattle.kc_macro_laws.proofs.expansions.calls_have_their_own_names.Goals as goal

pub returns : goal.returns
returns c = calls_have_their_own_names

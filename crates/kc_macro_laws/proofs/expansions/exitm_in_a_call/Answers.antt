use Rattle.kc_macro_laws.proofs.Exits.{exitm_in_a_call}
use Rattle.kc_macro_laws.proofs.expansions.exitm_in_a_call.Goals as goal

pub returns : goal.returns
returns c = exitm_in_a_call

use Rattle.kc_macro_laws.proofs.Exits.{exitm_in_a_rept}
use Rattle.kc_macro_laws.proofs.expansions.exitm_in_a_rept.Goals as goal

pub returns : goal.returns
returns c = exitm_in_a_rept

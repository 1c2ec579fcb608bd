use Rattle.kc_macro_laws.proofs.Constructs.{irp_is_copies}
use Rattle.kc_macro_laws.proofs.expansions.irp_is_copies.Goals as goal

pub returns : goal.returns
returns c = irp_is_copies

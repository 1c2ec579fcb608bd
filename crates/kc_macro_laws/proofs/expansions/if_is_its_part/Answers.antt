use Rattle.kc_macro_laws.proofs.Constructs.{if_is_its_part}
use Rattle.kc_macro_laws.proofs.expansions.if_is_its_part.Goals as goal

pub returns : goal.returns
returns c = if_is_its_part

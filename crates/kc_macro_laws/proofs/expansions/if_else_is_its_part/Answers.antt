use Rattle.kc_macro_laws.proofs.Constructs.{if_else_is_its_part}
use Rattle.kc_macro_laws.proofs.expansions.if_else_is_its_part.Goals as goal

pub returns : goal.returns
returns c = if_else_is_its_part

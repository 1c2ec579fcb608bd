use Rattle.kc_macro_laws.proofs.Constructs.{call_is_its_body}
use Rattle.kc_macro_laws.proofs.expansions.call_is_its_body.Goals as goal

pub returns : goal.returns
returns c = call_is_its_body

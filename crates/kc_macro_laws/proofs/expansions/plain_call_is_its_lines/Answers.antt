use Rattle.kc_macro_laws.proofs.PlainBodies.{plain_call_is_its_lines}
use Rattle.kc_macro_laws.proofs.expansions.plain_call_is_its_lines.Goals as goal

pub returns : goal.returns
returns c = plain_call_is_its_lines

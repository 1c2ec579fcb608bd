use Rattle.kc_macro.proofs.Plain.{plain_lines_stay}
use Rattle.kc_macro.proofs.laws.plain_lines_stay.Goals as goal

pub returns : goal.returns
returns c = plain_lines_stay

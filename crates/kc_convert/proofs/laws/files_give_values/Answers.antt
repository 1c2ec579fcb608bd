use Rattle.kc_convert.proofs.ReadLines.{files_give_values}
use Rattle.kc_convert.proofs.laws.files_give_values.Goals as goal

pub returns : goal.returns
returns c = files_give_values

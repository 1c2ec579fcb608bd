use Rattle.kc_convert.proofs.ConvertedLaws.{results_converted}
use Rattle.kc_convert.proofs.laws.results_are_converted.Goals as goal

pub returns : goal.returns
returns c = results_converted

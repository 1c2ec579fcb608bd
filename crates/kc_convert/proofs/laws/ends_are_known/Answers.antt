use Rattle.kc_convert.proofs.ConvertedLaws.{ends_known}
use Rattle.kc_convert.proofs.laws.ends_are_known.Goals as goal

pub returns : goal.returns
returns c = ends_known

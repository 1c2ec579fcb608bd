use Rattle.kc_lib.proofs.NameLemmas.{once_from_none, none_from_once, reported_first}
use Rattle.kc_lib.proofs.laws.doubles_are_reported.Goals as goal

pub returns : goal.returns
returns c = λ ms. record { none = once_from_none ms; once = none_from_once ms; reported = reported_first ms }

use Rattle.kc_profile.proofs.Times.{times-rows}
use Rattle.kc_profile.proofs.laws.times_are_rows.Goals as goal

pub returns : goal.returns
returns c = times-rows

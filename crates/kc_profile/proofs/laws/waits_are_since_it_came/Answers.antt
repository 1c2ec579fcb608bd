use Rattle.kc_profile.proofs.Since.{since-came}
use Rattle.kc_profile.proofs.laws.waits_are_since_it_came.Goals as goal

pub returns : goal.returns
returns c = since-came

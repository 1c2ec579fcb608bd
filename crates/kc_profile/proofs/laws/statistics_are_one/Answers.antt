use Rattle.kc_profile.proofs.StatisticsOne.{statistics_are_one}
use Rattle.kc_profile.proofs.laws.statistics_are_one.Goals as goal

pub returns : goal.returns
returns c = statistics_are_one

use Rattle.kc_cycles.proofs.FeedingLaws.{deadlines_last}
use Rattle.kc_cycles.proofs.laws.deadlines_are_of_last_feedings.Goals as goal

pub returns : goal.returns
returns c = deadlines_last

use Rattle.kc_profile.proofs.Seen.{waits-seen}
use Rattle.kc_profile.proofs.laws.waits_are_seen.Goals as goal

pub returns : goal.returns
returns c = waits-seen

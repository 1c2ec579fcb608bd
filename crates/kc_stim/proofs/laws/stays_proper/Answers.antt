use Rattle.kc_stim.proofs.LaterLaws.{stays_proper}
use Rattle.kc_stim.proofs.laws.stays_proper.Goals as goal

pub returns : goal.returns
returns c = stays_proper

use Rattle.kc_monitor.proofs.RunLemmas.{life_reported}
use Rattle.kc_monitor.proofs.law.life_law.Goals as goal

pub returns : goal.returns
returns c = life_reported

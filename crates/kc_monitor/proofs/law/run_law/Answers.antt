use Rattle.kc_monitor.proofs.AllLivesLemmas.{all_reported}
use Rattle.kc_monitor.proofs.law.run_law.Goals as goal

pub returns : goal.returns
returns c = all_reported

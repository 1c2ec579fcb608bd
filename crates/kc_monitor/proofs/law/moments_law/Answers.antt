use Rattle.kc_monitor.proofs.ReportedLemmas.{obligations_reported}
use Rattle.kc_monitor.proofs.law.moments_law.Goals as goal

pub returns : goal.returns
returns c = obligations_reported

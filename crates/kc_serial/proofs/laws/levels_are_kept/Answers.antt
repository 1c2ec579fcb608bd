use Rattle.kc_serial.proofs.HistoryLaws.{levels_kept}
use Rattle.kc_serial.proofs.laws.levels_are_kept.Goals as goal

pub returns : goal.returns
returns c = levels_kept

use Rattle.kc_serial.proofs.KnownLaws.{status_known}
use Rattle.kc_serial.proofs.histories.status_is_by_history.Goals as goal

pub returns : goal.returns
returns c = status_known

use Rattle.kc_serial.proofs.HistoryLaws.{bytes_are_samples}
use Rattle.kc_serial.proofs.laws.received_bytes_are_samples.Goals as goal

pub returns : goal.returns
returns c = bytes_are_samples

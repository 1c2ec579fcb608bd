use Rattle.kc_serial.proofs.ReceptionLaws.{bytes_last}
use Rattle.kc_serial.proofs.histories.bytes_are_last.Goals as goal

pub returns : goal.returns
returns c = bytes_last

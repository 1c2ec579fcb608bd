use Rattle.kc_serial.proofs.ReceptionLaws.{falls_caught}
use Rattle.kc_serial.proofs.histories.falls_are_caught.Goals as goal

pub returns : goal.returns
returns c = falls_caught

use Rattle.kc_serial.proofs.UniqueLaws.{receptions_one}
use Rattle.kc_serial.proofs.histories.receptions_are_one.Goals as goal

pub returns : goal.returns
returns c = receptions_one

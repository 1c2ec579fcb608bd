use Rattle.kc_serial.proofs.UniqueLaws.{schedules_one}
use Rattle.kc_serial.proofs.histories.schedules_are_one.Goals as goal

pub returns : goal.returns
returns c = schedules_one

use Rattle.kc_serial.proofs.ScheduleLaws.{scheduled}
use Rattle.kc_serial.proofs.histories.frames_are_scheduled.Goals as goal

pub returns : goal.returns
returns c = scheduled

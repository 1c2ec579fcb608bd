use Rattle.kc_serial.proofs.WorkedLaws.{driven_received}
use Rattle.kc_serial.proofs.histories.driven_frames_are_received.Goals as goal

pub returns : goal.returns
returns c = driven_received

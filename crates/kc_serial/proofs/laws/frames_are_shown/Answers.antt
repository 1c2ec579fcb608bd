use Rattle.kc_serial.proofs.HistoryLaws.{frames_shown}
use Rattle.kc_serial.proofs.laws.frames_are_shown.Goals as goal

pub returns : goal.returns
returns c = frames_shown

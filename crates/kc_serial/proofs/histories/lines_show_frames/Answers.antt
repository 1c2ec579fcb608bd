use Rattle.kc_serial.proofs.LineLaws.{lines_shown}
use Rattle.kc_serial.proofs.histories.lines_show_frames.Goals as goal

pub returns : goal.returns
returns c = lines_shown

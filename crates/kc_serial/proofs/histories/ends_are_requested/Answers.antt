use Rattle.kc_serial.proofs.KnownLaws.{ends_requested}
use Rattle.kc_serial.proofs.histories.ends_are_requested.Goals as goal

pub returns : goal.returns
returns c = ends_requested

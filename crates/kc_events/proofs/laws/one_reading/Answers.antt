use Rattle.kc_events.proofs.OneReading.{one_reading}
use Rattle.kc_events.proofs.laws.one_reading.Goals as goal

pub returns : goal.returns
returns c = one_reading

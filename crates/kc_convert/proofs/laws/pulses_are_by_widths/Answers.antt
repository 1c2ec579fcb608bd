use Rattle.kc_convert.proofs.PulseHistory.{by_widths}
use Rattle.kc_convert.proofs.laws.pulses_are_by_widths.Goals as goal

pub returns : goal.returns
returns c = by_widths

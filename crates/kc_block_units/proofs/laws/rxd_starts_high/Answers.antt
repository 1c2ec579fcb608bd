use Rattle.kc_block_units.proofs.StartLevels.{rxd_starts_high}
use Rattle.kc_block_units.proofs.laws.rxd_starts_high.Goals as goal

pub returns : goal.returns
returns c = rxd_starts_high

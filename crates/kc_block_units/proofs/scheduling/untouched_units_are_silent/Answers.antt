use Rattle.kc_block_units.proofs.Known.{untouched_are_silent}
use Rattle.kc_block_units.proofs.scheduling.untouched_units_are_silent.Goals as goal

pub returns : goal.returns
returns g c = untouched_are_silent

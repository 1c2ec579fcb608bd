use Rattle.kc_block_spec.proofs.Counts.{four_touched}
use Rattle.kc_block_spec.proofs.four_touched.Goals as goal

pub returns : goal.returns
returns g c = four_touched

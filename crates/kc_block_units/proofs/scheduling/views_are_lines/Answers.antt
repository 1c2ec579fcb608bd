use Rattle.kc_block_units.proofs.Rows.{views_are_lines}
use Rattle.kc_block_units.proofs.scheduling.views_are_lines.Goals as goal

pub returns : goal.returns
returns g c = views_are_lines

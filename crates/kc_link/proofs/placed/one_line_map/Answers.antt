use Rattle.kc_link.proofs.OneLines.{one_line_map}
use Rattle.kc_link.proofs.placed.one_line_map.Goals as goal

pub returns : goal.returns
returns c = one_line_map

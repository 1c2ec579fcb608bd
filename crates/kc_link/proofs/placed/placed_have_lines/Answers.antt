use Rattle.kc_link.proofs.PlacedLines.{placed_have_lines}
use Rattle.kc_link.proofs.placed.placed_have_lines.Goals as goal

pub returns : goal.returns
returns c = placed_have_lines c.code_stands_apart.ensures

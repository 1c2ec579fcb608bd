use Rattle.kc_asm.proofs.Sited.{statements_have_locations}
use Rattle.kc_asm.proofs.laws.statements_have_locations.Goals as goal

pub returns : goal.returns
returns c = statements_have_locations c.sizes_have_lengths.ensures

use Rattle.kc_asm_emit.proofs.Stays.{extent_stays}
use Rattle.kc_asm_emit.proofs.laws.extents_stay.Goals as goal

pub returns : goal.returns
returns c = extent_stays c.length_stays.ensures

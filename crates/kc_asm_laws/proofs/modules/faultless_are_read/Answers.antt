use Rattle.kc_asm_laws.proofs.Exists.{faultless_are_read}
use Rattle.kc_asm_laws.proofs.modules.faultless_are_read.Goals as goal

pub returns : goal.returns
returns c = faultless_are_read c.expansion_ends.ensures

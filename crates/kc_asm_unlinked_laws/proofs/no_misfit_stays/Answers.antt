use Rattle.kc_asm_unlinked_laws.proofs.Appending.{no_misfit_stays}
use Rattle.kc_asm_unlinked_laws.proofs.no_misfit_stays.Goals as goal

pub returns : goal.returns
returns c = no_misfit_stays

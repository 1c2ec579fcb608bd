use Rattle.kc_asm_unlinked_laws.proofs.Few.{pieces_few}
use Rattle.kc_asm_unlinked_laws.proofs.pieces_are_few.Goals as goal

pub returns : goal.returns
returns c = pieces_few c.bases_are_known.ensures c.contents_are_relocatables.ensures

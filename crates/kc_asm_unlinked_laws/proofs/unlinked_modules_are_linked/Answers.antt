use Rattle.kc_asm_unlinked_laws.proofs.Linking.{linked}
use Rattle.kc_asm_unlinked_laws.proofs.unlinked_modules_are_linked.Goals as goal

pub returns : goal.returns
returns c = linked c.absolute_pieces_stand.ensures

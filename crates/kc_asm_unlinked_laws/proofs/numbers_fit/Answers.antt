use Rattle.kc_asm_unlinked_laws.proofs.Linking.{all_fit}
use Rattle.kc_asm_unlinked_laws.proofs.numbers_fit.Goals as goal

pub returns : goal.returns
returns c = all_fit c.absolute_pieces_stand.ensures c.relocations_fit.ensures

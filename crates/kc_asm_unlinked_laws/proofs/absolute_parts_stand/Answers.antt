use Rattle.kc_asm_unlinked_laws.proofs.Linking.{absolute_parts}
use Rattle.kc_asm_unlinked_laws.proofs.absolute_parts_stand.Goals as goal

pub returns : goal.returns
returns c = absolute_parts c.absolute_pieces_stand.ensures

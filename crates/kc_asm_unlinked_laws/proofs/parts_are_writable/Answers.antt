use Rattle.kc_asm_unlinked_laws.proofs.Room.{parts_writable}
use Rattle.kc_asm_unlinked_laws.proofs.parts_are_writable.Goals as goal

pub returns : goal.returns
returns c = parts_writable c.sizes_stay.ensures c.sizes_have_lengths.ensures c.no_fault_no_codes.ensures

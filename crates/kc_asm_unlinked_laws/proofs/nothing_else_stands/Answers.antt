use Rattle.kc_asm_unlinked_laws.proofs.Stood.{nothing_else}
use Rattle.kc_asm_unlinked_laws.proofs.nothing_else_stands.Goals as goal

pub returns : goal.returns
returns c = nothing_else c.sizes_stay.ensures c.sizes_have_lengths.ensures c.no_fault_no_codes.ensures

use Rattle.kc_asm_unlinked_laws.proofs.Stood.{statements_stand}
use Rattle.kc_asm_unlinked_laws.proofs.statements_stand.Goals as goal

pub returns : goal.returns
returns c = statements_stand c.written_stands.ensures c.sizes_stay.ensures c.sizes_have_lengths.ensures c.no_fault_no_codes.ensures

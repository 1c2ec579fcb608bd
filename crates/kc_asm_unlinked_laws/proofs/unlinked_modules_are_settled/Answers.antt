use Rattle.kc_asm_unlinked_laws.proofs.Settling.{unlinked_modules_settled}
use Rattle.kc_asm_unlinked_laws.proofs.unlinked_modules_are_settled.Goals as goal

pub returns : goal.returns
returns c =
    unlinked_modules_settled c.written_stands.ensures c.put_stands.ensures c.no_misfit_stays.ensures
    c.sizes_stay.ensures c.sizes_have_lengths.ensures c.no_fault_no_codes.ensures

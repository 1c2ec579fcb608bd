use Rattle.kc_asm_unlinked_laws.proofs.Whole.{unlinked_modules_whole}
use Rattle.kc_asm_unlinked_laws.proofs.unlinked_modules_are_whole.Goals as goal

pub returns : goal.returns
returns c =
    unlinked_modules_whole c.written_stands.ensures c.put_stands.ensures c.firsts_stay.ensures c.contents_are_paired.ensures
    c.sizes_stay.ensures c.sizes_have_lengths.ensures c.no_fault_no_codes.ensures

use Rattle.kc_asm_unlinked_laws.proofs.UnlinkedModules.{unlinked_modules_unlinked_modules}
use Rattle.kc_asm_unlinked_laws.proofs.unlinked_modules_are_unlinked.Goals as goal

pub returns : goal.returns
returns c =
    unlinked_modules_unlinked_modules c.written_stands.ensures c.contents_are_paired.ensures c.contents_are_relocatables.ensures c.bases_are_known.ensures
    c.sizes_stay.ensures c.sizes_have_lengths.ensures c.no_fault_no_codes.ensures

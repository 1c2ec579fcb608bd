use Rattle.kc_asm_layout.proofs.Stays.{sizes_stay}
use Rattle.kc_asm_layout.proofs.sizes_laws.sizes_stay.Goals as goal

pub returns : goal.returns
returns c = sizes_stay c.meanings_are_alike.ensures c.extents_stay.ensures c.branches_have_lengths.ensures

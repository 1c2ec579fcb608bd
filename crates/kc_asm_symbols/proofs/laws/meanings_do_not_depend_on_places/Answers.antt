use Rattle.kc_asm_symbols.proofs.PlaceLemmas.{do_not_depend}
use Rattle.kc_asm_symbols.proofs.laws.meanings_do_not_depend_on_places.Goals as goal

pub returns : goal.returns
returns c = do_not_depend

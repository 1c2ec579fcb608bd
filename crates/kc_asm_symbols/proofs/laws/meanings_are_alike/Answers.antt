use Rattle.kc_asm_symbols.proofs.PlaceLemmas.{meanings_alike}
use Rattle.kc_asm_symbols.proofs.laws.meanings_are_alike.Goals as goal

pub returns : goal.returns
returns c = meanings_alike

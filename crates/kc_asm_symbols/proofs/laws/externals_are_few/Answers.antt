use Rattle.kc_asm_symbols.proofs.FewLemmas.{externals_are_few}
use Rattle.kc_asm_symbols.proofs.laws.externals_are_few.Goals as goal

pub returns : goal.returns
returns c = externals_are_few

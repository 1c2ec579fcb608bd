use Rattle.kc_asm_symbols.proofs.KnownLemmas.{bases_known}
use Rattle.kc_asm_symbols.proofs.laws.bases_are_known.Goals as goal

pub returns : goal.returns
returns c = bases_known

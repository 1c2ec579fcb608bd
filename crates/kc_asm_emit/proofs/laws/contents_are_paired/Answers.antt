use Rattle.kc_asm_emit.proofs.PairLemmas.{content_pairs}
use Rattle.kc_asm_emit.proofs.laws.contents_are_paired.Goals as goal

pub returns : goal.returns
returns c = content_pairs c.relocatables_are_paired.ensures

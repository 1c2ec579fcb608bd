use Rattle.kc_asm_emit.proofs.RelocatableByteLemmas.{content_are}
use Rattle.kc_asm_emit.proofs.laws.contents_are_relocatables.Goals as goal

pub returns : goal.returns
returns c = λ known fixed absolute look names form place here action. content_are known fixed absolute look names form place here action

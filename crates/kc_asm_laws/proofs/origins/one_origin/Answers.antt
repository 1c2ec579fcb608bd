use Rattle.kc_asm_laws.proofs.OriginLemmas.{one_origin}
use Rattle.kc_asm_laws.proofs.origins.one_origin.Goals as goal

pub returns : goal.returns
returns c = one_origin

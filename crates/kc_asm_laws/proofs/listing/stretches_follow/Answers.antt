use Rattle.kc_asm_laws.proofs.Follow as follow
use Rattle.kc_asm_laws.proofs.listing.stretches_follow.Goals as goal

pub returns : goal.returns
returns c = follow.stretches_follow c.sizes_are_numbered.ensures

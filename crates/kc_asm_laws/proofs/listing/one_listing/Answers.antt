use Rattle.kc_asm_laws.proofs.One as one
use Rattle.kc_asm_laws.proofs.listing.one_listing.Goals as goal

pub returns : goal.returns
returns c = one.one_listing

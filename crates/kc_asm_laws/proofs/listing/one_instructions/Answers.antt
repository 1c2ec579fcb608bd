use Rattle.kc_asm_laws.proofs.One as one
use Rattle.kc_asm_laws.proofs.listing.one_instructions.Goals as goal

pub returns : goal.returns
returns c = one.one_instructions

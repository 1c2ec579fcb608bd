use Rattle.kc_asm_layout.proofs.Numbers.{sizes_numbered}
use Rattle.kc_asm_layout.proofs.sizes_laws.sizes_are_numbered.Goals as goal

pub returns : goal.returns
returns c = sizes_numbered

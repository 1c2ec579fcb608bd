use Rattle.kc_asm_layout.proofs.Steps.{size_record_count}
use Rattle.kc_asm_layout.proofs.sizes_laws.sizes_have_lengths.Goals as goal

pub returns : goal.returns
returns c = size_record_count

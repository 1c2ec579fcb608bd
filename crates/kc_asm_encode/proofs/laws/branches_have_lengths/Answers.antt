use Rattle.kc_asm_encode.proofs.Lengths.{branches_have_lengths}
use Rattle.kc_asm_encode.proofs.laws.branches_have_lengths.Goals as goal

pub returns : goal.returns
returns c = branches_have_lengths

use Rattle.kc_asm_encode.proofs.Pointers.{pointers_are_even}
use Rattle.kc_asm_encode.proofs.laws.pointers_are_even.Goals as goal

pub returns : goal.returns
returns c = pointers_are_even

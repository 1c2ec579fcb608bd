use Rattle.kc_asm_encode.proofs.Sound.{settled_is_sound}
use Rattle.kc_asm_encode.proofs.laws.settled_is_sound.Goals as goal

pub returns : goal.returns
returns c = settled_is_sound

use Rattle.std.proofs.Common.{refl}
use Rattle.kc_kit_messages.specs.Meanings.{fourth_rows}
use Rattle.kc_kit_messages.proofs.instructions.fourth.Goals as goal

pub returns : goal.returns
unfolding fourth_rows
returns c = refl

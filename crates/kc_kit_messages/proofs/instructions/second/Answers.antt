use Rattle.std.proofs.Common.{refl}
use Rattle.kc_kit_messages.specs.Meanings.{second_rows}
use Rattle.kc_kit_messages.proofs.instructions.second.Goals as goal

pub returns : goal.returns
unfolding second_rows
returns c = refl

use Rattle.std.proofs.Common.{refl}
use Rattle.kc_kit_messages.specs.Meanings.{third_rows}
use Rattle.kc_kit_messages.proofs.instructions.third.Goals as goal

pub returns : goal.returns
unfolding third_rows
returns c = refl

use Rattle.std.proofs.Common.{refl}
use Rattle.kc_kit_messages.specs.Meanings.{first_rows}
use Rattle.kc_kit_messages.proofs.instructions.first.Goals as goal

pub returns : goal.returns
unfolding first_rows
returns c = refl

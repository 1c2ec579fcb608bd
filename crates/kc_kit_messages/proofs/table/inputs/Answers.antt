use Rattle.std.proofs.Common.{refl}
use Rattle.kc_kit_messages.specs.Meanings.{input_rows}
use Rattle.kc_kit_messages.proofs.table.inputs.Goals as goal

pub returns : goal.returns
unfolding input_rows
returns c = refl

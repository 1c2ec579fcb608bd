use Rattle.std.proofs.Common.{refl}
use Rattle.kc_kit_messages.specs.Meanings.{source_rows}
use Rattle.kc_kit_messages.proofs.table.sources.Goals as goal

pub returns : goal.returns
unfolding source_rows
returns c = refl

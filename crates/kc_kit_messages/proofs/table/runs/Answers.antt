use Rattle.std.proofs.Common.{refl}
use Rattle.kc_kit_messages.specs.Meanings.{run_rows}
use Rattle.kc_kit_messages.proofs.table.runs.Goals as goal

pub returns : goal.returns
unfolding run_rows
returns c = refl

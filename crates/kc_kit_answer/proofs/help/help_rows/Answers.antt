use Rattle.std.proofs.Common.{refl}
use Rattle.kc_kit_answer.specs.Help.{help_rows}
use Rattle.kc_kit_answer.proofs.help.help_rows.Goals as goal

pub returns : goal.returns
unfolding help_rows
returns c = refl

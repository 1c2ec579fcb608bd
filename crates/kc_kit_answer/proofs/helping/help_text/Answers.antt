use Rattle.kc_kit_answer.specs.Help.{help_rows, help_text}
use Rattle.kc_kit_answer.proofs.HelpLemmas.{ok-same, lines-of-all}
use Rattle.kc_kit_answer.proofs.helping.help_text.Goals as goal

pub returns : goal.returns
returns c = ok-same _ c.all_of.result _ help_text (lines-of-all _ c.help_rows.result.now help_rows c.help_rows.ensures) c.all_of.ensures

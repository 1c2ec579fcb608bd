use Rattle.kc_kit_answer.specs.Help.{help_rows, help_on, is_on}
use Rattle.kc_kit_answer.proofs.HelpLemmas.{ok-same, lines-of-some}
use Rattle.kc_kit_answer.proofs.helping.help_on.Goals as goal

pub returns : goal.returns
returns c = ok-same _ c.those_on.result _ (help_on c.args.verb.now) (lines-of-some (is_on c.args.verb.now) _ c.help_rows.result.now help_rows c.help_rows.ensures) c.those_on.ensures

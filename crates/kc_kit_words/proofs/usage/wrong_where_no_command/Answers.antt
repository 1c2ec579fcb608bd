use Rattle.kc_kit_words.proofs.UsageLemmas.{wrong_where_none}
use Rattle.kc_kit_words.proofs.usage.wrong_where_no_command.Goals as goal

pub returns : goal.returns
returns c = wrong_where_none

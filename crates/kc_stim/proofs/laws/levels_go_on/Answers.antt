use Rattle.kc_stim.proofs.LaterLaws.{levels_go_on, levels_start_there}
use Rattle.kc_stim.proofs.laws.levels_go_on.Goals as goal

pub returns-clause-at : goal.returns-clause-at
returns-clause-at c = levels_go_on

pub returns-clause-before : goal.returns-clause-before
returns-clause-before c = levels_start_there

use Rattle.kc_kit_laws.proofs.StartLevels.{start_levels_agree}
use Rattle.kc_kit_laws.proofs.start_levels_agree.Goals as goal

pub returns : goal.returns
returns c = start_levels_agree

-- Before state 0 of a run each input is as nothing has driven it yet.
use Rattle.std.proofs.Common.{refl}
use Rattle.kc_kit_laws.specs.StartLevels.{StartLevelsAgree}

pub start_levels_agree : StartLevelsAgree
start_levels_agree pin is input = refl

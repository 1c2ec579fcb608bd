use Rattle.kc_block_sfr.proofs.Left.{standing_reports}
use Rattle.kc_block_sfr.proofs.laws.standing_units_report_what_is_shown.Goals as goal

pub returns : goal.returns
returns g c = standing_reports g.X.Extra.further g.X.Extra.agrees

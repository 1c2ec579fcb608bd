use Rattle.std.proofs.Common.{sym, ◌∙◌}
use Rattle.kc_block_units.specs.Standing.{standing}
use Rattle.kc_block_sfr.proofs.Left.{standing_reports}
use Rattle.kc_block_sfr.proofs.holding.hso_holding.Goals as goal

pub returns : goal.returns
returns g c =
    let reports = standing_reports g.X.Extra.further g.X.Extra.agrees (standing g.X.Extra.plain c.args.scheduler.now) c.args.now c.requires in
    c.holding.ensures ∙ sym reports.hso.holding

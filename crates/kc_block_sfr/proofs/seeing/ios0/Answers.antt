use Rattle.std.proofs.Common.{sym, ◌∙◌}
use Rattle.kc_hso.proofs.Kept.{kept_are_seen_alike}
use Rattle.kc_block_units.specs.Standing.{standing}
use Rattle.kc_block_sfr.proofs.Left.{standing_reports}
use Rattle.kc_block_sfr.proofs.seeing.ios0.Goals as goal

pub returns : goal.returns
returns g c =
    let reports = standing_reports g.X.Extra.further g.X.Extra.agrees (standing g.X.Extra.plain c.args.scheduler.now) c.args.now c.requires in
    c.ios0.ensures ∙ sym (kept_are_seen_alike _ _ reports.hso).ios0

use Rattle.std.proofs.Common.{ap, sym, ◌∙◌}
use Rattle.kc_hsi.specs.Input.{status_of}
use Rattle.kc_block_units.specs.Standing.{standing}
use Rattle.kc_block_sfr.proofs.Left.{standing_reports}
use Rattle.kc_block_sfr.proofs.seeing.hsi_status.Goals as goal

pub returns : goal.returns
returns g c =
    let reports = standing_reports g.X.Extra.further g.X.Extra.agrees (standing g.X.Extra.plain c.args.scheduler.now) c.args.now c.requires in
    c.read_status.ensures ∙ ap (λ d. status_of d.held.events c.args.levels) (sym reports.hsi)

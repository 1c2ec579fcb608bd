use Rattle.std.proofs.Common.{sym, ◌∙◌, ap}
use Rattle.kc_block_spec.specs.Levels.{printed}
use Rattle.kc_block_units.specs.Standing.{standing}
use Rattle.kc_block_sfr.proofs.Left.{standing_reports}
use Rattle.kc_block.proofs.accesses.printed_at.Goals as goal

pub returns : goal.returns
returns g c =
    let reports = standing_reports g.X.Extra.further g.X.Extra.agrees (standing g.X.Extra.plain c.args.scheduler.now) c.args.time c.requires in
    c.printed.ensures.value
    ∙ ap (λ latches. printed c.args.scheduler.now.board_registers (record c.args.scheduler.now.hso.unit.inner { latches = latches })) (sym reports.hso.latches)

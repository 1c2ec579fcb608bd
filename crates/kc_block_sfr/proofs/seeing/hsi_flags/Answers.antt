use Rattle.std.proofs.Common.{ap, sym, ◌∙◌}
use Rattle.kc_hsi.specs.Input.{flags_of}
use Rattle.kc_block_units.specs.Standing.{standing}
use Rattle.kc_block_sfr.proofs.Left.{standing_reports}
use Rattle.kc_block_sfr.proofs.seeing.hsi_flags.Goals as goal

pub returns-clause-flags : goal.returns-clause-flags
returns-clause-flags g c =
    let reports = standing_reports g.X.Extra.further g.X.Extra.agrees (standing g.X.Extra.plain c.args.scheduler.now) c.args.now c.requires in
    c.flags.ensures ∙ ap flags_of (sym reports.hsi)

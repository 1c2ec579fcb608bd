use Rattle.std.proofs.Common.{ap, sym, ◌∙◌}
use Rattle.kc_block_units.specs.Standing.{standing}
use Rattle.kc_block_sfr.proofs.Left.{standing_reports}
use Rattle.kc_block_sfr.proofs.seeing.word_at.Goals as goal

pub returns-in-HsiTime : goal.returns-in-HsiTime
returns-in-HsiTime g c =
    let reports = standing_reports g.X.Extra.further g.X.Extra.agrees (standing g.X.Extra.plain c.args.scheduler.now) c.args.now c.requires.present.scheduled in
    rw c.in-HsiTime.is (c.time.ensures ∙ ap (λ d. d.held.time) (sym reports.hsi))

pub returns-in-T2Capture : goal.returns-in-T2Capture
returns-in-T2Capture g c =
    let reports = standing_reports g.X.Extra.further g.X.Extra.agrees (standing g.X.Extra.plain c.args.scheduler.now) c.args.now c.requires.present.scheduled in
    rw c.in-T2Capture.is (c.captured.ensures ∙ sym reports.captured)

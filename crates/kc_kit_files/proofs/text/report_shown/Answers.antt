use Rattle.kc_kit_files.proofs.Reporting.{reports-first, reports-nothing}
use Rattle.kc_kit_files.proofs.text.report_shown.Goals as goal

pub loop-left-preserved : goal.loop-left-preserved
loop-left-preserved g c = λ end rest. c.loop-left.invariant end (reports-first _ _ end c.loop-left.left.now c.in-len1-up.len_at_least c.report_byte.ensures rest)

pub returns : goal.returns
returns g c = c.loop-left.invariant _ (reports-nothing _ c.loop-left.left.now c.in_default.len_below)

use Rattle.std.proofs.Common.{subst, ◌∙◌}
use Rattle.kc_trace.specs.Out.{Puts}
use Rattle.kc_trace.specs.Trace.{out_of}
use Rattle.kc_trace.proofs.Outs.{Puts-append, Puts-longer}
use Rattle.kc_debug.proofs.showing.report_stand.Goals as goal

pub returns-clause-text : goal.returns-clause-text
returns-clause-text g c =
    let a = out_of g.S.Sink.written g.S.Sink.faults c.report_end.new.out in
    let q = out_of g.S.Sink.written g.S.Sink.faults c.put_text.new.self in
    Puts-append _ _ a _ q c.report_end.ensures.text (subst (λ xs. Puts a xs q) (c.as_slice.ensures.value ∙ c.stand_line.ensures) c.put_text.ensures.text)

pub returns-in_err-report_end-clause-text : goal.returns-in_err-report_end-clause-text
returns-in_err-report_end-clause-text g c = Puts-longer _ _ _ _ c.in_err-report_end.ensures.fault.failed c.report_end.ensures.text

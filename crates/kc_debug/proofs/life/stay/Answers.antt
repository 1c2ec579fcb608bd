use Rattle.std.proofs.Common.{ap, subst}
use Rattle.kc_trace.specs.Out.{Puts}
use Rattle.kc_trace.specs.Trace.{out_of}
use Rattle.kc_trace.proofs.Outs.{Puts-append}
use Rattle.kc_debug.specs.declared.life.DebuggedLife.{DebuggedLife}
use Rattle.kc_debug.specs.InLives.{stand_line}
use Rattle.kc_debug.proofs.life.stay.Goals as goal

pub returns-clause-text : goal.returns-clause-text
returns-clause-text g c =
    let o = out_of g.S.Sink.written g.S.Sink.faults c.args.out.now in
    let a = out_of g.S.Sink.written g.S.Sink.faults c.report_over.new.out in
    let q = out_of g.S.Sink.written g.S.Sink.faults c.report_stand.new.out in
    Puts-append o _ a _ q c.report_over.ensures.text
    (subst (λ xs. Puts a xs q) (ap (λ (x : DebuggedLife _). stand_line x.number x.machine.machine) c.report_over.ensures.over) c.report_stand.ensures.text)

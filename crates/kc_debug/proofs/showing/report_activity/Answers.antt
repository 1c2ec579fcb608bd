use Rattle.std.proofs.Common.{subst, ◌∙◌}
use Rattle.kc_trace.specs.Out.{Puts}
use Rattle.kc_trace.specs.Trace.{out_of}
use Rattle.kc_trace.proofs.Outs.{Puts-append}
use Rattle.kc_debug.proofs.showing.report_activity.Goals as goal

pub returns : goal.returns
returns g c =
    let o = out_of g.S.Sink.written g.S.Sink.faults c.args.out.now in
    let a = out_of g.S.Sink.written g.S.Sink.faults c.put_text.new.self in
    let b = out_of g.S.Sink.written g.S.Sink.faults c.report_place.new.out in
    let q = out_of g.S.Sink.written g.S.Sink.faults c.put_text-2.new.self in
    let fields = subst (λ xs. Puts o xs a) (c.as_slice.ensures.value ∙ c.activity_fields.ensures.fields) c.put_text.ensures.text in
    Puts-append o _ b _ q (Puts-append o _ a _ b fields c.report_place.ensures) c.put_text-2.ensures.text

use Rattle.std.proofs.Common.{subst, ◌∙◌}
use Rattle.kc_trace.specs.Out.{Puts}
use Rattle.kc_trace.specs.Trace.{out_of}
use Rattle.kc_trace.proofs.Outs.{Puts-append}
use Rattle.kc_debug.specs.Lines.{source_place}
use Rattle.kc_debug.proofs.showing.report_place.Goals as goal

pub returns-in-Some : goal.returns-in-Some
returns-in-Some g c =
    let o = out_of g.S.Sink.written g.S.Sink.faults c.args.out.now in
    let a = out_of g.S.Sink.written g.S.Sink.faults c.put_text.new.self in
    let b = out_of g.S.Sink.written g.S.Sink.faults c.put_text-in-Some.new.self in
    let q = out_of g.S.Sink.written g.S.Sink.faults c.put_text-in-Some-2.new.self in
    let name = subst (λ xs. Puts a xs b) c.as_slice.ensures c.put_text-in-Some.ensures.text in
    let number = subst (λ xs. Puts b xs q) (c.as_slice-in-Some.ensures.value ∙ c.line_number.ensures) c.put_text-in-Some-2.ensures.text in
    subst (λ e. Puts o (source_place e) q) c.in-Some.ensures (Puts-append o _ b _ q (Puts-append o _ a _ b c.put_text.ensures.text name) number)

use Rattle.std.specs.Prelude.{codes}
use Rattle.std.proofs.Common.{subst}
use Rattle.kc_trace.specs.Out.{Puts}
use Rattle.kc_trace.specs.Trace.{out_of}
use Rattle.kc_trace.proofs.Outs.{Puts-append}
use Rattle.kc_kit_words.proofs.usage.put_lack.Goals as goal

pub returns : goal.returns
returns g c =
    let a = out_of g.N.Sink.written g.N.Sink.faults c.args.diagnostics.now in
    let b = out_of g.N.Sink.written g.N.Sink.faults c.put_text.new.self in
    let d = out_of g.N.Sink.written g.N.Sink.faults c.put_text-2.new.self in
    Puts-append a (codes "missing option ") b c.args.option.now d c.put_text.ensures.text (subst (λ xs. Puts b xs d) c.as_bytes.ensures.value c.put_text-2.ensures.text)

use Rattle.std.specs.Prelude.{◌++◌, codes}
use Rattle.std.proofs.Common.{subst}
use Rattle.kc_trace.specs.Out.{Puts}
use Rattle.kc_trace.specs.Trace.{out_of}
use Rattle.kc_trace.proofs.Outs.{Puts-append}
use Rattle.kc_kit_words.specs.Usage.{wrong_text, noted}
use Rattle.kc_kit_words.proofs.usage.put_usage.Goals as goal

pub returns-in-Some : goal.returns-in-Some
returns-in-Some g c =
    let a = out_of g.N.Sink.written g.N.Sink.faults c.args.diagnostics.now in
    let b = out_of g.N.Sink.written g.N.Sink.faults c.put_text.new.self in
    let d = out_of g.N.Sink.written g.N.Sink.faults c.put.new.diagnostics in
    let e = out_of g.N.Sink.written g.N.Sink.faults c.put_text-in-Some.new.self in
    let text = wrong_text c.in-Some.wrong in
    subst (λ o. Puts a (noted o) e) c.in-Some.ensures
    (Puts-append a (codes "kc96: error: " ++ text) d (codes "; see kc96 --help\n") e (Puts-append a (codes "kc96: error: ") b text d c.put_text.ensures.text c.put.ensures) c.put_text-in-Some.ensures.text)

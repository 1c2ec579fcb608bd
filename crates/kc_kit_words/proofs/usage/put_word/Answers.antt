use Rattle.std.proofs.Common.{subst}
use Rattle.kc_trace.specs.Out.{Puts}
use Rattle.kc_trace.specs.Trace.{out_of}
use Rattle.kc_trace.proofs.Outs.{Puts-append}
use Rattle.kc_kit_files.specs.Shown.{word_shown}
use Rattle.kc_kit_words.proofs.usage.put_word.Goals as goal

pub returns : goal.returns
returns g c =
    let a = out_of g.N.Sink.written g.N.Sink.faults c.args.diagnostics.now in
    let b = out_of g.N.Sink.written g.N.Sink.faults c.put_text.new.self in
    let d = out_of g.N.Sink.written g.N.Sink.faults c.report_word.new.diagnostics in
    Puts-append a c.args.text.now b (word_shown c.args.word.now) d (subst (λ xs. Puts a xs b) c.as_bytes.ensures.value c.put_text.ensures.text) (subst (λ xs. Puts b (word_shown xs) d) c.as_bytes-2.ensures.value c.report_word.ensures)

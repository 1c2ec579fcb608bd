use Rattle.std.proofs.Common.{sym, subst}
use Rattle.kc_trace.specs.Out.{Puts}
use Rattle.kc_trace.specs.Trace.{out_of}
use Rattle.kc_trace.proofs.Outs.{Puts-append}
use Rattle.kc_kit_files.specs.Shown.{shown}
use Rattle.kc_kit_files.specs.Ended.{unwritten}
use Rattle.kc_kit_files.proofs.ended.put_unwritten.Goals as goal

pub returns-in-File : goal.returns-in-File
returns-in-File g c =
    let a = out_of g.N.Sink.written g.N.Sink.faults c.args.diagnostics.now in
    let b = out_of g.N.Sink.written g.N.Sink.faults c.report_shown.new.diagnostics in
    let d = out_of g.N.Sink.written g.N.Sink.faults c.put_text.new.self in
    subst (λ w. Puts a (unwritten w) d) (sym c.in-File.is)
    (Puts-append a (shown c.in-File.name.now) b _ d (subst (λ xs. Puts a (shown xs) b) c.as_bytes.ensures.value c.report_shown.ensures) c.put_text.ensures.text)

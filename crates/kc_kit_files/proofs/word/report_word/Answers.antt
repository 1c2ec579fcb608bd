use Rattle.std.proofs.Common.{◌≡◌, ◌++◌, sym, subst, take, length, [], arith}
use Rattle.std.proofs.lemmas.Bool.Decides.{nat_tests}
use Rattle.std.specs.Prelude.{codes, nat_lt, true, if◌then◌else◌}
use Rattle.kc_trace.specs.Out.{Puts}
use Rattle.kc_trace.specs.Trace.{out_of}
use Rattle.kc_trace.proofs.Outs.{Puts-append}
use Rattle.kc_kit_files.specs.Shown.{shown, cut_at}
use Rattle.kc_kit_files.proofs.word.report_word.Goals as goal

pub returns-then-end-word : goal.returns-then-end-word
returns-then-end-word g c =
    let a = out_of g.N.Sink.written g.N.Sink.faults c.args.diagnostics.now in
    let b = out_of g.N.Sink.written g.N.Sink.faults c.report_shown.new.diagnostics in
    let d = out_of g.N.Sink.written g.N.Sink.faults c.put_text.new.self in
    let end = c.bytes_of_first-end.result in
    let is_long : nat_lt end (length c.args.word.now) ≡ true = grind (arith, nat_tests, c.if-end-word.true) in
    let reported : Puts a (shown (take end c.args.word.now) ++ codes "..") d = Puts-append a (shown (take end c.args.word.now)) b (codes "..") d (subst (λ t. Puts a (shown t) b) c.prefix.ensures c.report_shown.ensures) c.put_text.ensures.text in
    subst (λ n. Puts a (cut_at n c.args.word.now) d) c.bytes_of_first-end.ensures.value
    (subst (λ is. Puts a (shown (take end c.args.word.now) ++ (if is then codes ".." else [])) d) (sym is_long) reported)

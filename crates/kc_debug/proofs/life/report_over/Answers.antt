use Rattle.std.proofs.Common.{sym, subst, ◌∙◌}
use Rattle.kc_trace.specs.Out.{Puts}
use Rattle.kc_trace.specs.Trace.{out_of}
use Rattle.kc_trace.proofs.Outs.{Puts-nothing}
use Rattle.kc_debug.proofs.Settled.{spent-text, spent-over, over-text, over-over}
use Rattle.kc_debug.proofs.life.report_over.Goals as goal

pub returns-then-is_spent-clause-text : goal.returns-then-is_spent-clause-text
returns-then-is_spent-clause-text g c =
    let o = out_of g.S.Sink.written g.S.Sink.faults c.args.out.now in
    subst (λ xs. Puts o xs o) (sym (spent-text c.args.how c.args.life.now.machine.machine (sym c.is_spent.ensures ∙ c.if-is_spent.true))) (Puts-nothing o)

pub returns-then-is_spent-clause-over : goal.returns-then-is_spent-clause-over
returns-then-is_spent-clause-over g c = λ i. record c.args.life.now { over = sym (spent-over c.args.how c.args.life.now.over (sym c.is_spent.ensures ∙ c.if-is_spent.true)) i }

pub returns-clause-text : goal.returns-clause-text
returns-clause-text g c =
    let o = out_of g.S.Sink.written g.S.Sink.faults c.args.out.now in
    let q = out_of g.S.Sink.written g.S.Sink.faults c.write_end-written.new.out in
    subst (λ xs. Puts o xs q) (sym (over-text c.args.how c.args.life.now.machine.machine (sym c.is_spent.ensures ∙ c.if-is_spent.false))) c.write_end-written.ensures.line

pub returns-clause-over : goal.returns-clause-over
returns-clause-over g c = λ i. record c.args.life.now { over = sym (over-over c.args.how c.args.life.now.over (sym c.is_spent.ensures ∙ c.if-is_spent.false)) i }

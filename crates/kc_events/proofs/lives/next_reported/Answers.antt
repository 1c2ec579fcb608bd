use Rattle.std.proofs.Common.{◌≡◌, Ok, Err, true, sym, subst, rules}
use Rattle.kc_events.specs.Underway.{Underway, ReportsNone}
use Rattle.kc_events.specs.Reporting.{Reporting, IsAnswer, reporting}
use Rattle.kc_events.proofs.ReportLemmas.{reported_none, read_after, answer_after}
use Rattle.kc_events.proofs.lives.next_reported.Goals as goal

pub returns-in_err-take_line-clause-answer : goal.returns-in_err-take_line-clause-answer
returns-in_err-take_line-clause-answer g c =
    let a : Reporting = reporting c.args.trace.now c.args.course.now in
    let b : Reporting = reporting c.loop.trace c.loop.course in
    let d : Underway = c.next_step.new.self in
    let e : Reporting = reporting c.loop.trace d in
    let f : Reporting = reporting c.take_line.new.trace c.take_line.new.course in
    let quiet : ReportsNone c.loop.course d = search rules in
    let first = read_after a b e c.loop.invariant.0 (reported_none c.loop.trace c.loop.course d c.loop.invariant.1 quiet) in
    let fault : IsAnswer e (Err c.in_err-take_line.field-0.0) f = c.in_err-take_line.ensures.fault in
    let same : c.from_residual.result ≡ Err c.in_err-take_line.field-0.0 = search rules in
    answer_after a e f c.from_residual.result first (subst (λ r. IsAnswer e r f) (sym same) fault)

pub loop-preserved : goal.loop-preserved
loop-preserved g c =
    let a : Reporting = reporting c.args.trace.now c.args.course.now in
    let b : Reporting = reporting c.loop.trace c.loop.course in
    let d : Underway = c.next_step.new.self in
    let e : Reporting = reporting c.loop.trace d in
    let f : Reporting = reporting c.take_line.new.trace c.take_line.new.course in
    let quiet : ReportsNone c.loop.course d = search rules in
    let first = read_after a b e c.loop.invariant.0 (reported_none c.loop.trace c.loop.course d c.loop.invariant.1 quiet) in
    let is : c.take_line.result ≡ Ok true = search rules in
    let fed = c.take_line.ensures.fed is in
    (read_after a e f first fed.0, fed.1)

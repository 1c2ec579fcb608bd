use Rattle.std.proofs.Common.{◌≡◌, Some, Ok, [], ◌∷◌, subst, rules}
use Rattle.kc_events.specs.Underway.{seen_by}
use Rattle.kc_events.specs.Reporting.{IsAnswer}
use Rattle.kc_vcd.specs.Writing.{HasReported}
use Rattle.kc_vcd.proofs.Reported.{one_step}
use Rattle.kc_vcd.proofs.dumping.report.Goals as goal

pub loop-preserved : goal.loop-preserved
loop-preserved g c =
    let going = c.loop.invariant.going in
    let seen = seen_by c.in-Ok-Some.step c.next_step.new.self.course in
    let is : c.in-Ok-Some.field-0 ≡ Some c.in-Ok-Some.step = search rules in
    let reported : HasReported c.loop.writer (seen ∷ []) c.take.new.self = search rules in
    let calm : c.next_step.new.self.trace.faults ≡ c.loop.lives.trace.faults = search rules in
    one_step c.args.lives.now c.args.writer.now c.loop.lives c.loop.writer c.next_step.new.self c.take.new.self seen c.loop.invariant (subst (λ n. IsAnswer c.loop.lives (Ok n) c.next_step.new.self) is (c.in-Ok-Some.ensures.answer going)) reported (c.in-Ok-Some.ensures.stops going) calm

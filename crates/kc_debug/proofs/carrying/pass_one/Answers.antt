use Rattle.std.proofs.Common.{sym, subst, arith}
use Rattle.kc_trace.specs.Trace.{out_of}
use Rattle.kc_debug.specs.Passing.{Passed, Spends}
use Rattle.kc_debug.proofs.Passing.{at-once-near, at-once-far, is-far}
use Rattle.kc_debug.proofs.carrying.pass_one.Goals as goal

pub returns-then-is_near-clause-passed : goal.returns-then-is_near-clause-passed
returns-then-is_near-clause-passed g c =
    let m = c.args.machine.now.machine in
    let o = out_of g.S.Sink.written g.S.Sink.faults c.args.out.now in
    let p = out_of g.S.Sink.written g.S.Sink.faults c.pass_state.new.out in
    let one = at-once-near c.args.until c.now.result m c.is_near.result c.now.ensures c.is_near.ensures c.if-is_near.true in
    subst (λ n. Passed g.X.Extra.further n m o c.args.begun.now c.pass_state.new.machine.machine p c.pass_state.new.begun) (sym one) c.pass_state.ensures.passed

pub returns-then-is_near-clause-few : goal.returns-then-is_near-clause-few
returns-then-is_near-clause-few g c =
    let one = at-once-near c.args.until c.now.result c.args.machine.now.machine c.is_near.result c.now.ensures c.is_near.ensures c.if-is_near.true in
    omega (arith, one, c.requires.ahead)

pub returns-then-is_near-clause-spent : goal.returns-then-is_near-clause-spent
returns-then-is_near-clause-spent g c =
    let one = at-once-near c.args.until c.now.result c.args.machine.now.machine c.is_near.result c.now.ensures c.is_near.ensures c.if-is_near.true in
    subst (λ n. Spends g.X.Extra.further n c.args.machine.now c.args.steps.now c.pass_state.new.machine c.pass_state.new.steps) (sym one) c.pass_state.ensures.spent

pub returns-else-is_near-clause-passed : goal.returns-else-is_near-clause-passed
returns-else-is_near-clause-passed g c =
    let m = c.args.machine.now.machine in
    let o = out_of g.S.Sink.written g.S.Sink.faults c.args.out.now in
    let p = out_of g.S.Sink.written g.S.Sink.faults c.pass_activity.new.out in
    let all = at-once-far c.args.until c.now.result m c.is_near.result c.now.ensures c.is_near.ensures c.if-is_near.false in
    subst (λ n. Passed g.X.Extra.further n m o c.args.begun.now c.pass_activity.new.machine.machine p c.pass_activity.new.begun) (sym all) c.pass_activity.ensures.passed

pub returns-else-is_near-clause-few : goal.returns-else-is_near-clause-few
returns-else-is_near-clause-few g c =
    let all = at-once-far c.args.until c.now.result c.args.machine.now.machine c.is_near.result c.now.ensures c.is_near.ensures c.if-is_near.false in
    let far = is-far c.args.until c.now.result c.is_near.result c.is_near.ensures c.if-is_near.false in
    omega (arith, all, far, c.now.ensures, c.pass_activity.ensures.few)

pub returns-else-is_near-clause-spent : goal.returns-else-is_near-clause-spent
returns-else-is_near-clause-spent g c =
    let all = at-once-far c.args.until c.now.result c.args.machine.now.machine c.is_near.result c.now.ensures c.is_near.ensures c.if-is_near.false in
    subst (λ n. Spends g.X.Extra.further n c.args.machine.now c.args.steps.now c.pass_activity.new.machine c.pass_activity.new.steps) (sym all) c.pass_activity.ensures.spent

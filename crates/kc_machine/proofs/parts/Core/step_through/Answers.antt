use Rattle.std.proofs.Common.{◌≡◌, ℕ, ◌+◌, ◌-◌, ◌<◌, ◌≤◌, ◌∙◌, true, min, ap, sym, refl, arith}
use Rattle.kc_trace.specs.Trace.{out_of}
use Rattle.kc_machine_spec.specs.declared.doing.UnderWay.{UnderWay}
use Rattle.kc_machine_spec.specs.Machine.{current, current_of}
use Rattle.kc_machine_spec.specs.Passing.{activity_end}
use Rattle.kc_machine_spec.proofs.Coming.{Came-first, Came-next}
use Rattle.kc_machine_spec.proofs.Runs.{run_to-touch}
use Rattle.kc_machine.specs.Seen.{machine_of}
use Rattle.kc_machine.proofs.Failing.{fails-here}
use Rattle.kc_machine.proofs.parts.Core.step_through.Goals as goal
use Rattle.kc_machine.proofs.parts.Core.step_through.Goals.{else-activity-gt1-via-then-activity-gt1+else-self-until, else-activity-gt1-via-else-activity-gt1}

pub returns-then-self-until-clause-steps : goal.returns-then-self-until-clause-steps
returns-then-self-until-clause-steps g c =
    let f = g.X.Extra.further in
    let m = machine_of c.args.self.now in
    let o = out_of g.S.Sink.written g.S.Sink.faults c.args.out.now in
    let first = c.pass_state-raised.ensures in
    let rest = c.go_through.ensures in
    let mid = machine_of c.pass_state-raised.new.self in
    let n = machine_of c.go_through.new.self in
    let further : mid.time < n.time = omega (arith, rest.passed.passes.from, rest.passed.passes.begins) in
    let came = Came-next f m o m o mid _ (Came-first f m o) (omega (arith, first.time)) first.passed.goes.machine first.passed.goes.lines in
    let all = Came-next f m o mid _ n _ came further rest.passed.goes.machine rest.passed.goes.lines in
    let cost = run_to-touch f mid.time n.time m mid (omega (arith, first.time)) (omega (arith, further)) refl came.machine in
    let left : c.args.activity.left ≡ (current m).left = ap (λ (a : UnderWay). a.left) c.requires.value in
    let less : (current mid).left ≡ c.args.activity.left - 1 = ap (λ u. (current_of mid u).left) (first.rest c.if-activity-gt1.true).0 in
    let same : activity_end mid ≡ activity_end m = omega (arith, first.time, less, left, c.if-activity-gt1.true) in
    record {
      forward = omega (arith, first.time, further);
      within = omega (arith, rest.over);
      machine = all.machine;
      lines = all.lines;
      costs = record {
        spent = omega (arith, cost, first.passed.goes.costs.spent, rest.passed.goes.costs.spent);
        moves = omega (arith, cost, first.passed.goes.costs.moves, rest.passed.goes.costs.moves);
      };
      one = tt;
      raised = tt;
      fails = fails-here f c.args.until m o n _ c.requires.unbroken (omega (arith, first.time, further)) (rest.over ∙ ap (min c.args.until) same) all.machine all.lines (rest.passed.goes.lines.text.stays (sym c.failed.ensures ∙ c.if-failed.true));
    }

pub returns-else-activity-gt1-clause-steps : goal.returns-else-activity-gt1-clause-steps
returns-else-activity-gt1-clause-steps g c =
    let f = g.X.Extra.further in
    let m = machine_of c.args.self.now in
    let o = out_of g.S.Sink.written g.S.Sink.faults c.args.out.now in
    let first = c.pass_state-raised.ensures in
    let goes = first.passed.goes in
    let n = machine_of c.pass_state-raised.new.self in
    let left : c.args.activity.left ≡ (current m).left = ap (λ (a : UnderWay). a.left) c.requires.value in
    let over : n.time ≡ min c.args.until (activity_end m) = elim c.else-activity-gt1.branch [
      | else-activity-gt1-via-then-activity-gt1+else-self-until w ↦ omega (arith, first.time, left, w.if-activity-gt1.true, w.if-self-until.false, c.requires.may.ahead)
      | else-activity-gt1-via-else-activity-gt1 w ↦ omega (arith, first.time, left, w.if-activity-gt1.false, c.requires.going.some, c.requires.may.ahead)
    ] in
    record {
      forward = omega (arith, first.time);
      within = omega (arith, first.time, c.requires.may.ahead);
      machine = goes.machine;
      lines = goes.lines;
      costs = goes.costs;
      one = tt;
      raised = tt;
      fails = fails-here f c.args.until m o n _ c.requires.unbroken (omega (arith, first.time)) over goes.machine goes.lines (sym c.failed.ensures ∙ c.if-failed.true);
    }

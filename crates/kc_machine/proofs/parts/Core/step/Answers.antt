use Rattle.std.proofs.Common.{◌≡◌, ◌-◌, ◌∙◌, ap, sym, arith}
use Rattle.kc_trace.specs.Trace.{out_of}
use Rattle.kc_trace.proofs.Printed.{Prints-none}
use Rattle.kc_machine_spec.specs.Machine.{Stepped}
use Rattle.kc_machine_spec.specs.Passing.{activity_end}
use Rattle.kc_machine_spec.specs.Run.{run_to, still}
use Rattle.kc_machine_spec.proofs.Coming.{Came-first}
use Rattle.kc_machine_spec.proofs.Runs.{run_for-ended}
use Rattle.kc_machine.specs.Seen.{machine_of}
use Rattle.kc_machine.proofs.Failing.{fails-in}
use Rattle.kc_machine.proofs.Going.{goes-same}
use Rattle.kc_machine.proofs.parts.Core.step.Goals as goal

pub returns-in-Some-clause-end : goal.returns-in-Some-clause-end
returns-in-Some-clause-end g c =
    let m = machine_of c.args.self.now in
    let over : run_to g.X.Extra.further (activity_end m) m ≡ still m = run_for-ended g.X.Extra.further (activity_end m - m.time) m c.in-Some.end c.in-Some.is in
    sym c.in-Some.is ∙ sym (ap (λ (s : Stepped _). s.machine.ended) over)

pub returns-in-Some-clause-goes : goal.returns-in-Some-clause-goes
returns-in-Some-clause-goes g c =
    let m = machine_of c.args.self.now in
    let over : run_to g.X.Extra.further (activity_end m) m ≡ still m = run_for-ended g.X.Extra.further (activity_end m - m.time) m c.in-Some.end c.in-Some.is in
    record {
      machine = sym (ap (λ (s : Stepped _). s.machine) over);
      lines = Prints-none _ _ (sym (ap (λ (s : Stepped _). s.records) over));
      costs = record { spent = omega arith; moves = omega arith };
    }

pub returns-then-failed-clause-goes : goal.returns-then-failed-clause-goes
returns-then-failed-clause-goes g c = goes-same (ap (λ i. run_to g.X.Extra.further i (machine_of c.args.self.now)) c.pass_current.ensures.time) c.pass_current.ensures.passed.goes

pub returns-clause-goes : goal.returns-clause-goes
returns-clause-goes g c = goes-same (ap (λ i. run_to g.X.Extra.further i (machine_of c.args.self.now)) c.pass_current.ensures.time) c.pass_current.ensures.passed.goes

pub returns-then-failed-clause-fails : goal.returns-then-failed-clause-fails
returns-then-failed-clause-fails g c =
    let m = machine_of c.args.self.now in
    let o = out_of g.S.Sink.written g.S.Sink.faults c.args.out.now in
    let passed = c.pass_current.ensures.passed in
    fails-in g.X.Extra.further (activity_end m) m o m o _ _ (Came-first g.X.Extra.further m o) c.requires.unbroken passed.passes passed.goes.machine passed.goes.lines (sym c.failed.ensures ∙ c.if-failed.true)

use Rattle.std.proofs.Common.{◌≡◌, ◌-◌, ◌*◌, ◌≤◌, max, false}
use Rattle.kc_machine_spec.specs.Run.{run_to}
use Rattle.kc_machine_spec.proofs.Coming.{Came}
use Rattle.std.specs.Bool.{OnTrue}
use Rattle.kc_block_spec.specs.Costs.{CostsAtMost}
use Rattle.kc_machine.specs.Prepared.{IsFree}
use Rattle.kc_machine.specs.Sound.{IsPredecoded}
use Rattle.kc_trace.specs.Trace.{out_of}
use Rattle.kc_machine.specs.Seen.{machine_of}
use Rattle.kc_machine.proofs.parts.Core.run.Given as goal

abbrev pub invariant-loop-self : goal.invariant-loop-self
invariant-loop-self g l = record {
  came : Came g.X.Extra.further (machine_of l.initial.self) (out_of g.S.Sink.written g.S.Sink.faults l.initial.out) (machine_of l.self) (out_of g.S.Sink.written g.S.Sink.faults l.out);
  within : l.self.time ≤ max l.until l.initial.self.time;
  unbroken : l.out.failed ≡ false;
  costs : CostsAtMost (4 * (run_to g.X.Extra.further l.self.time (machine_of l.initial.self)).touch) l.initial.steps l.steps l.initial.self.bus.block.moves l.self.bus.block.moves;
  predecoded : IsPredecoded l.self;
  free : OnTrue l.free (IsFree (machine_of l.self));
}

abbrev pub decreases-loop-self : goal.decreases-loop-self
decreases-loop-self g l = l.until - l.self.time

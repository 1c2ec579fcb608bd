use Rattle.std.proofs.Common.{◌≡◌, false}
use Rattle.kc_trace.specs.Trace.{out_of}
use Rattle.kc_debug.proofs.Going.{Going, Paid}
use Rattle.kc_debug.proofs.session.Sitting.carry_out_all.Given as goal

abbrev pub invariant-loop-index : goal.invariant-loop-index
invariant-loop-index g l = record {
  going : Going g.X.Extra.further l.lines l.commands l.initial.machine.machine (out_of g.S.Sink.written g.S.Sink.faults l.initial.out) l.index l.machine.machine l.self (out_of g.S.Sink.written g.S.Sink.faults l.out);
  paid : Paid g.X.Extra.further l.lines l.commands l.initial.machine.machine l.initial.steps l.initial.machine.moves l.index l.steps l.machine.moves;
  capacity : l.self.begun.capacity ≡ 33;
  unbroken : l.out.failed ≡ false;
}

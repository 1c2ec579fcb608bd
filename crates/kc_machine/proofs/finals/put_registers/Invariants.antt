use Rattle.kc_trace.specs.Out.{Prints}
use Rattle.kc_trace.specs.Trace.{out_of}
use Rattle.kc_machine_spec.specs.Text.{register_rows}
use Rattle.kc_machine.proofs.finals.put_registers.Given as goal

abbrev pub invariant-loop-row : goal.invariant-loop-row
invariant-loop-row g l = Prints (out_of g.S.Sink.written g.S.Sink.faults l.initial.out) (register_rows l.row l.memory) (out_of g.S.Sink.written g.S.Sink.faults l.out)

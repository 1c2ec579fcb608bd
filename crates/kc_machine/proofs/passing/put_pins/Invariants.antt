use Rattle.std.proofs.Common.{take}
use Rattle.kc_trace.specs.Out.{Prints}
use Rattle.kc_trace.specs.Trace.{out_of}
use Rattle.kc_machine_spec.specs.Board.{pins}
use Rattle.kc_machine.proofs.passing.put_pins.Given as goal

abbrev pub invariant-loop-edge : goal.invariant-loop-edge
invariant-loop-edge g l = Prints (out_of g.S.Sink.written g.S.Sink.faults l.initial.out) (pins l.at (take l.edge-index l.edges)) (out_of g.S.Sink.written g.S.Sink.faults l.out)

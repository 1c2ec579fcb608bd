use Rattle.std.proofs.Common.{◌≡◌, ◌+◌, ◌*◌, ◌≤◌, min}
use Rattle.kc_trace.specs.Out.{Puts}
use Rattle.kc_trace.specs.Trace.{out_of}
use Rattle.kc_debug.specs.Lines.{memory_rows}
use Rattle.kc_debug.proofs.showing.show.Given as goal

abbrev pub invariant-loop-row : goal.invariant-loop-row
invariant-loop-row g l = record {
  text : Puts (out_of g.S.Sink.written g.S.Sink.faults l.initial.out) (memory_rows g.X.Extra.further l.initial.machine.machine l.from l.count l.row) (out_of g.S.Sink.written g.S.Sink.faults l.out);
  same : l.machine.machine ≡ l.initial.machine.machine;
  moves : l.machine.moves ≤ l.initial.machine.moves + min (16 * l.row) l.count;
}

use Rattle.std.proofs.Common.{◌+◌, ◌-◌}
use Rattle.kc_trace.specs.Trace.{out_of}
use Rattle.kc_kit_answer.proofs.Listed.{IsListed}
use Rattle.kc_kit_answer.proofs.list.list_image.Given as goal

abbrev pub invariant-loop-at : goal.invariant-loop-at
invariant-loop-at g l = IsListed l.image l.first l.last l.at (out_of g.S.Sink.written g.S.Sink.faults l.initial.out) (out_of g.S.Sink.written g.S.Sink.faults l.out)

abbrev pub decreases-loop-at : goal.decreases-loop-at
decreases-loop-at g l = l.last + 1 - l.at

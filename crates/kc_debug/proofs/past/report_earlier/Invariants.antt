use Rattle.std.proofs.Common.{take, drop, flat_map}
use Rattle.kc_trace.specs.Out.{Puts}
use Rattle.kc_trace.specs.Trace.{out_of}
use Rattle.kc_debug.specs.Debugging.{past_of}
use Rattle.kc_debug.specs.InLives.{activity_line}
use Rattle.kc_debug.proofs.past.report_earlier.Given as goal

-- the activities from the first one on, up to this one
abbrev pub invariant-loop-index : goal.invariant-loop-index
invariant-loop-index g l =
    Puts (out_of g.S.Sink.written g.S.Sink.faults l.initial.out) (flat_map (λ p. activity_line l.lines (past_of p)) (drop l.first (take l.index l.past.items))) (out_of g.S.Sink.written g.S.Sink.faults l.out)

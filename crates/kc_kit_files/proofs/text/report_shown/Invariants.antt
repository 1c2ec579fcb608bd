use Rattle.std.proofs.Common.{length}
use Rattle.kc_trace.specs.Out.{Out, Puts}
use Rattle.kc_trace.specs.Trace.{out_of}
use Rattle.kc_kit_files.specs.Shown.{shown}
use Rattle.kc_kit_files.proofs.text.report_shown.Given as goal

-- what is still to be reported completes the text
abbrev pub invariant-loop-left : goal.invariant-loop-left
invariant-loop-left g l = (end : Out) → Puts (out_of g.N.Sink.written g.N.Sink.faults l.diagnostics) (shown l.left) end
    → Puts (out_of g.N.Sink.written g.N.Sink.faults l.initial.diagnostics) (shown l.text) end

abbrev pub decreases-loop-left : goal.decreases-loop-left
decreases-loop-left g l = length l.left

use Rattle.std.proofs.Common.{arith}
use Rattle.kc_trace.specs.Trace.{out_of}
use Rattle.kc_debug.specs.Lines.{activity_line}
use Rattle.kc_debug.proofs.Shown.{reported-more, reported-same, got, got-within, lost-behind}
use Rattle.kc_debug.proofs.showing.report_history.Goals as goal
use Rattle.kc_debug.proofs.showing.report_history.Goals.{in-Some, in-None}

pub loop-index-preserved : goal.loop-index-preserved
loop-index-preserved g c =
    let o = out_of g.S.Sink.written g.S.Sink.faults c.args.out.now in
    let p = out_of g.S.Sink.written g.S.Sink.faults c.loop-index.out in
    let xs = c.args.begun.now.items in
    let n = c.loop-index.index in
    elim c.match-get.branch [
      | in-Some w ↦
          let x = w.in-Some.activity.now in
          let q = out_of g.S.Sink.written g.S.Sink.faults w.report_activity.new.out in
          rw w.out-is (reported-more (activity_line c.args.lines.now) o p q c.saturating_sub-first.result n xs x (omega arith) (got-within xs n x w.in-Some.ensures) (got xs n x w.in-Some.ensures) c.loop-index.invariant w.report_activity.ensures)
      | in-None w ↦ rw w.out-is (reported-same (activity_line c.args.lines.now) o p c.saturating_sub-first.result n xs (lost-behind xs n w.in-None.ensures) c.loop-index.invariant)
    ]

use Rattle.std.proofs.Common.{arith}
use Rattle.kc_trace.specs.Trace.{out_of}
use Rattle.kc_debug.specs.Debugging.{past_in, past_of}
use Rattle.kc_debug.specs.InLives.{activity_line}
use Rattle.kc_debug.proofs.Shown.{reported-none, reported-more, reported-same, got, got-within, lost-behind, reported-last}
use Rattle.kc_debug.proofs.past.report_present.Goals as goal
use Rattle.kc_debug.proofs.past.report_present.Goals.{in-Some, in-None}

pub loop-index-init : goal.loop-index-init
loop-index-init g c = reported-none (λ b. activity_line c.args.lines.now (past_of (past_in c.args.life b))) (out_of g.S.Sink.written g.S.Sink.faults c.args.out.now) c.args.first c.args.begun.now.items

pub loop-index-preserved : goal.loop-index-preserved
loop-index-preserved g c =
    let o = out_of g.S.Sink.written g.S.Sink.faults c.args.out.now in
    let p = out_of g.S.Sink.written g.S.Sink.faults c.loop-index.out in
    let xs = c.args.begun.now.items in
    let n = c.loop-index.index in
    elim c.match-get.branch [
      | in-Some w ↦
          let x = w.in-Some.activity.now in
          let q = out_of g.S.Sink.written g.S.Sink.faults w.report_past.new.out in
          rw w.out-is (reported-more (λ b. activity_line c.args.lines.now (past_of (past_in c.args.life b))) o p q c.args.first n xs x (omega arith) (got-within xs n x w.in-Some.ensures) (got xs n x w.in-Some.ensures) c.loop-index.invariant w.report_past.ensures)
      | in-None w ↦ rw w.out-is (reported-same (λ b. activity_line c.args.lines.now (past_of (past_in c.args.life b))) o p c.args.first n xs (lost-behind xs n w.in-None.ensures) c.loop-index.invariant)
    ]

pub returns : goal.returns
returns g c =
    reported-last (λ b. activity_line c.args.lines.now (past_of (past_in c.args.life b))) (out_of g.S.Sink.written g.S.Sink.faults c.args.out.now) (out_of g.S.Sink.written g.S.Sink.faults c.loop-index.out) c.args.first c.loop-index.index c.args.finished c.args.begun.now.items
    (omega (arith, c.loop-index-test.false)) (omega (arith, c.loop-index-test.false, c.loop-index.auto.index, c.loop-index.auto.index-end, c.requires)) (omega (arith, c.loop-index-test.false, c.loop-index.auto.index, c.loop-index.auto.index-end, c.requires)) c.loop-index.invariant

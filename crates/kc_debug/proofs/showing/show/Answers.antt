use Rattle.std.proofs.Common.{◌≡◌, ◌+◌, ◌-◌, ◌*◌, ◌%◌, ◌^◌, min, sym, subst, refl, ◌∙◌, arith}
use Rattle.kc_trace.specs.Out.{Puts}
use Rattle.kc_trace.specs.Trace.{out_of}
use Rattle.kc_trace.proofs.Outs.{Puts-nothing, Puts-append}
use Rattle.kc_debug.specs.Lines.{memory_line, memory_rows}
use Rattle.kc_debug.proofs.Shown.{rows-none, rows-more}
use Rattle.kc_debug.proofs.showing.show.Goals as goal

pub loop-row-init : goal.loop-row-init
loop-row-init g c =
    let o = out_of g.S.Sink.written g.S.Sink.faults c.args.out.now in
    record { text = subst (λ xs. Puts o xs o) (sym (rows-none g.X.Extra.further c.args.machine.now.machine c.args.from c.args.count)) (Puts-nothing o); same = refl; moves = omega arith }

pub loop-row-preserved : goal.loop-row-preserved
loop-row-preserved g c =
    let f = g.X.Extra.further in
    let m = c.args.machine.now.machine in
    let n = c.loop-row.row in
    let from = (c.args.from + 16 * n) % 2 ^ 16 in
    let o = out_of g.S.Sink.written g.S.Sink.faults c.args.out.now in
    let p = out_of g.S.Sink.written g.S.Sink.faults c.loop-row.out in
    let q = out_of g.S.Sink.written g.S.Sink.faults c.put_text.new.self in
    let line : c.as_slice.result.now ≡ memory_line f m from (min (c.args.count - 16 * n) 16) =
    c.as_slice.ensures.value ∙ c.memory_line-line.ensures.items ∙ (λ i. memory_line f (c.loop-row.invariant.same i) from (c.min.ensures i)) in
    record {
      text = subst (λ xs. Puts o xs q) (sym (rows-more f m c.args.from c.args.count n))
          (Puts-append o (memory_rows f m c.args.from c.args.count n) p _ q c.loop-row.invariant.text (subst (λ xs. Puts p xs q) line c.put_text.ensures.text));
      same = c.memory_line-line.ensures.same ∙ c.loop-row.invariant.same;
      moves = omega (arith, c.memory_line-line.ensures.moves, c.min.ensures, c.loop-row.invariant.moves);
    }

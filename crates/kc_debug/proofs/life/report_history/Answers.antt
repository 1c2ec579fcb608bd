use Rattle.std.proofs.Common.{◌≡◌, ◌-◌, length, drop, take, flat_map, subst, arith}
use Rattle.kc_trace.specs.Out.{Puts}
use Rattle.kc_trace.specs.Trace.{out_of}
use Rattle.kc_trace.proofs.Outs.{Puts-append}
use Rattle.kc_debug.specs.Activities.{finished}
use Rattle.kc_debug.specs.InLives.{activity_line}
use Rattle.kc_debug.specs.Debugging.{past_of, past_in}
use Rattle.kc_debug.proofs.Kept.{done-finished, history-parts}
use Rattle.kc_debug.proofs.life.report_history.Goals as goal

pub returns-clause-text : goal.returns-clause-text
returns-clause-text g c =
    let s = c.args.life.now in
    let o = out_of g.S.Sink.written g.S.Sink.faults c.args.out.now in
    let a = out_of g.S.Sink.written g.S.Sink.faults c.report_earlier.new.out in
    let q = out_of g.S.Sink.written g.S.Sink.faults c.report_present.new.out in
    let line = activity_line c.args.lines.now in
    let first = c.saturating_sub-first.result in
    let n = c.count_finished-present.result in
    let done = done-finished s.machine.machine.under_way s.begun.items c.between.result n c.len.result c.between.ensures c.len.ensures.len c.count_finished-present.ensures.count in
    let parts = history-parts line s.past.items s.number (finished s.machine.machine.under_way s.begun.items) s.begun.items n first done.0 done.1 (omega (arith, c.saturating_sub-first.ensures, c.len-earlier.ensures.len)) in
    let behind : c.saturating_sub.result ≡ first - length s.past.items = omega (arith, c.saturating_sub.ensures, c.len-earlier.ensures.len) in
    let later = subst (λ k. Puts a (flat_map (λ b. line (past_of (past_in s.number b))) (drop k (take n s.begun.items))) q) behind c.report_present.ensures in
    subst (λ xs. Puts o xs q) parts (Puts-append o _ a _ q c.report_earlier.ensures later)

use Rattle.std.proofs.Common.{◌-◌, ◌≤◌, ◌^◌, sym, ◌∙◌, ap, arith}
use Rattle.std.specs.Prelude.{is_some, ◌||◌, ◌==◌}
use Rattle.kc_trace.specs.Trace.{out_of}
use Rattle.kc_machine_spec.specs.Run.{end_of}
use Rattle.kc_cycles.specs.Life.{is_at}
use Rattle.kc_cycles.specs.Making.{deadline_of}
use Rattle.kc_cycles.proofs.Going.{spanned, spanned-time, over-either, over-neither, on-err}
use Rattle.kc_profile.proofs.Few.{few-more}
use Rattle.kc_kit_running.specs.Watched.{watched_further}
use Rattle.kc_kit_running.proofs.LifeLemmas.{gone-forward, gone-of, more-counted, watched-feeds, way-begins, way-bitten, way-broken, way-next, way-over}
use Rattle.kc_kit_running.proofs.profile_lives.live.Goals as goal

pub spans-init : goal.spans-init
spans-init g c =
    way-begins c.args.until c.args.account.now.statistics.life c.args.machine.now.machine (out_of g.S.Sink.written g.S.Sink.faults c.args.out.now) c.args.steps.now c.args.account.now.profile c.args.account.now.statistics
    c.requires.begins c.requires.lives c.requires.unfed c.requires.unbroken c.requires.none

pub run_profiled-requires-clause-until : goal.run_profiled-requires-clause-until
run_profiled-requires-clause-until g c =
    let w = c.spans.invariant in
    let m0 = c.args.machine.now.machine in
    let m = c.spans.machine.machine in
    let stop = c.span_end-stop.result in
    let until = c.args.until in
    let life = c.args.account.now.statistics.life in
    let old = out_of g.S.Sink.written g.S.Sink.faults c.args.out.now in
    let mid = out_of g.S.Sink.written g.S.Sink.faults c.spans.out in
    let span = spanned watched_further deadline_of watched-feeds until m0 m.time m stop _ _ w.left w.along.machine w.within w.ahead c.span_end-stop.ensures c.now.ensures c.deadline_in.ensures in
    omega (arith, span.fits, c.requires.until)

pub run_profiled-requires-clause-room : goal.run_profiled-requires-clause-room
run_profiled-requires-clause-room g c =
    let w = c.spans.invariant in
    let m0 = c.args.machine.now.machine in
    let m = c.spans.machine.machine in
    let stop = c.span_end-stop.result in
    let until = c.args.until in
    let life = c.args.account.now.statistics.life in
    let old = out_of g.S.Sink.written g.S.Sink.faults c.args.out.now in
    let mid = out_of g.S.Sink.written g.S.Sink.faults c.spans.out in
    let span = spanned watched_further deadline_of watched-feeds until m0 m.time m stop _ _ w.left w.along.machine w.within w.ahead c.span_end-stop.ensures c.now.ensures c.deadline_in.ensures in
    omega (arith, span.fits, c.requires.until, w.within, w.counted.count.tally.sum, w.counted.all)

pub run_profiled-requires-clause-few : goal.run_profiled-requires-clause-few
run_profiled-requires-clause-few g c =
    let w = c.spans.invariant in
    let m0 = c.args.machine.now.machine in
    let m = c.spans.machine.machine in
    let stop = c.span_end-stop.result in
    let until = c.args.until in
    let life = c.args.account.now.statistics.life in
    let old = out_of g.S.Sink.written g.S.Sink.faults c.args.out.now in
    let mid = out_of g.S.Sink.written g.S.Sink.faults c.spans.out in
    let span = spanned watched_further deadline_of watched-feeds until m0 m.time m stop _ _ w.left w.along.machine w.within w.ahead c.span_end-stop.ensures c.now.ensures c.deadline_in.ensures in
    few-more _ (2 ^ 64 - 1 - stop) c.spans.account.statistics (omega (arith, span.fits, c.requires.until, w.within, w.counted.all)) w.counted.count.few

pub spans-preserved : goal.spans-preserved
spans-preserved g c =
    let w = c.spans.invariant in
    let m0 = c.args.machine.now.machine in
    let m = c.spans.machine.machine in
    let n = c.run_profiled.new.machine.machine in
    let stop = c.span_end-stop.result in
    let until = c.args.until in
    let life = c.args.account.now.statistics.life in
    let old = out_of g.S.Sink.written g.S.Sink.faults c.args.out.now in
    let mid = out_of g.S.Sink.written g.S.Sink.faults c.spans.out in
    let new = out_of g.S.Sink.written g.S.Sink.faults c.run_profiled.new.out in
    let span = spanned watched_further deadline_of watched-feeds until m0 m.time m stop _ _ w.left w.along.machine w.within w.ahead c.span_end-stop.ensures c.now.ensures c.deadline_in.ensures in
    let within : n.time ≤ stop = omega (arith, c.run_profiled.ensures.within, span.forward) in
    let gone = gone-of life m0 m c.spans.account.profile c.spans.account.statistics n c.run_profiled.new.profile c.run_profiled.new.statistics c.requires.begins w.along.machine w.counted
    (gone-forward m n stop span.forward (c.run_profiled.ensures.goes w.lives) c.in_ok-how.ensures.machine) c.run_profiled.ensures.profile c.run_profiled.ensures.passed c.run_profiled.ensures.life c.in_ok-how.ensures.statistics c.run_profiled.ensures.few in
    let on = over-neither n.ended stop until (ap (λ o. is_some o || (stop == until)) (sym c.ended.ensures) ∙ sym c.is_over.ensures ∙ c.if-is_over.false) in
    let none = ap (λ o. is_at o stop) (sym c.deadline_in-in-spans.ensures) ∙ sym c.has_come.ensures ∙ c.if-has_come.false in
    way-next until life m0 old c.args.steps.now m mid c.spans.steps c.spans.account.profile c.spans.account.statistics w stop span n new c.run_profiled.new.steps c.run_profiled.new.profile c.run_profiled.new.statistics c.in_ok-how.ensures.machine c.run_profiled.ensures.lines within c.run_profiled.ensures.spent c.in_ok-how.ensures.written gone on.0 none

pub spans-smaller : goal.spans-smaller
spans-smaller g c =
    let w = c.spans.invariant in
    let m0 = c.args.machine.now.machine in
    let m = c.spans.machine.machine in
    let n = c.run_profiled.new.machine.machine in
    let stop = c.span_end-stop.result in
    let until = c.args.until in
    let life = c.args.account.now.statistics.life in
    let old = out_of g.S.Sink.written g.S.Sink.faults c.args.out.now in
    let mid = out_of g.S.Sink.written g.S.Sink.faults c.spans.out in
    let new = out_of g.S.Sink.written g.S.Sink.faults c.run_profiled.new.out in
    let span = spanned watched_further deadline_of watched-feeds until m0 m.time m stop _ _ w.left w.along.machine w.within w.ahead c.span_end-stop.ensures c.now.ensures c.deadline_in.ensures in
    let on = over-neither n.ended stop until (ap (λ o. is_some o || (stop == until)) (sym c.ended.ensures) ∙ sym c.is_over.ensures ∙ c.if-is_over.false) in
    let time = spanned-time watched_further deadline_of watched-feeds until m0 m.time m stop n span c.in_ok-how.ensures.machine on.0 in
    let forward = span.goes on.1 in
    omega (arith, time, forward, span.fits)

pub returns-then-is_over-clause-lived : goal.returns-then-is_over-clause-lived
returns-then-is_over-clause-lived g c =
    let w = c.spans.invariant in
    let m0 = c.args.machine.now.machine in
    let m = c.spans.machine.machine in
    let n = c.run_profiled.new.machine.machine in
    let stop = c.span_end-stop.result in
    let until = c.args.until in
    let life = c.args.account.now.statistics.life in
    let old = out_of g.S.Sink.written g.S.Sink.faults c.args.out.now in
    let mid = out_of g.S.Sink.written g.S.Sink.faults c.spans.out in
    let new = out_of g.S.Sink.written g.S.Sink.faults c.run_profiled.new.out in
    let span = spanned watched_further deadline_of watched-feeds until m0 m.time m stop _ _ w.left w.along.machine w.within w.ahead c.span_end-stop.ensures c.now.ensures c.deadline_in.ensures in
    let within : n.time ≤ stop = omega (arith, c.run_profiled.ensures.within, span.forward) in
    way-over until life m0 old c.args.steps.now m mid c.spans.steps c.spans.account.profile c.spans.account.statistics w stop span n new c.run_profiled.new.steps c.run_profiled.new.profile c.run_profiled.new.statistics _ c.in_ok-how.ensures.machine c.run_profiled.ensures.lines within c.run_profiled.ensures.spent c.in_ok-how.ensures.written c.requires.lives
    (c.in_ok-how.ensures.end ∙ ap end_of (sym c.in_ok-how.ensures.machine)) (over-either n.ended stop until (ap (λ o. is_some o || (stop == until)) (sym c.ended.ensures) ∙ sym c.is_over.ensures ∙ c.if-is_over.true))

pub returns-then-is_over-clause-counted : goal.returns-then-is_over-clause-counted
returns-then-is_over-clause-counted g c =
    let w = c.spans.invariant in
    let m0 = c.args.machine.now.machine in
    let m = c.spans.machine.machine in
    let n = c.run_profiled.new.machine.machine in
    let stop = c.span_end-stop.result in
    let until = c.args.until in
    let life = c.args.account.now.statistics.life in
    let old = out_of g.S.Sink.written g.S.Sink.faults c.args.out.now in
    let mid = out_of g.S.Sink.written g.S.Sink.faults c.spans.out in
    let new = out_of g.S.Sink.written g.S.Sink.faults c.run_profiled.new.out in
    let span = spanned watched_further deadline_of watched-feeds until m0 m.time m stop _ _ w.left w.along.machine w.within w.ahead c.span_end-stop.ensures c.now.ensures c.deadline_in.ensures in
    let within : n.time ≤ stop = omega (arith, c.run_profiled.ensures.within, span.forward) in
    let gone = gone-of life m0 m c.spans.account.profile c.spans.account.statistics n c.run_profiled.new.profile c.run_profiled.new.statistics c.requires.begins w.along.machine w.counted
    (gone-forward m n stop span.forward (c.run_profiled.ensures.goes w.lives) c.in_ok-how.ensures.machine) c.run_profiled.ensures.profile c.run_profiled.ensures.passed c.run_profiled.ensures.life c.in_ok-how.ensures.statistics c.run_profiled.ensures.few in
    (more-counted life m0 m c.spans.account.profile c.spans.account.statistics n c.run_profiled.new.profile c.run_profiled.new.statistics w.along.machine w.counted gone).count

pub returns-then-has_come-clause-lived : goal.returns-then-has_come-clause-lived
returns-then-has_come-clause-lived g c =
    let w = c.spans.invariant in
    let m0 = c.args.machine.now.machine in
    let m = c.spans.machine.machine in
    let n = c.run_profiled.new.machine.machine in
    let stop = c.span_end-stop.result in
    let until = c.args.until in
    let life = c.args.account.now.statistics.life in
    let old = out_of g.S.Sink.written g.S.Sink.faults c.args.out.now in
    let mid = out_of g.S.Sink.written g.S.Sink.faults c.spans.out in
    let new = out_of g.S.Sink.written g.S.Sink.faults c.run_profiled.new.out in
    let span = spanned watched_further deadline_of watched-feeds until m0 m.time m stop _ _ w.left w.along.machine w.within w.ahead c.span_end-stop.ensures c.now.ensures c.deadline_in.ensures in
    let on = over-neither n.ended stop until (ap (λ o. is_some o || (stop == until)) (sym c.ended.ensures) ∙ sym c.is_over.ensures ∙ c.if-is_over.false) in
    let within : n.time ≤ stop = omega (arith, c.run_profiled.ensures.within, span.forward) in
    let due = ap (λ o. is_at o stop) (sym c.deadline_in-in-spans.ensures) ∙ sym c.has_come.ensures ∙ c.if-has_come.true in
    let forward = span.goes on.1 in
    way-bitten until life m0 old c.args.steps.now m mid c.spans.steps c.spans.account.profile c.spans.account.statistics w stop span n new c.run_profiled.new.steps c.run_profiled.new.profile c.run_profiled.new.statistics c.in_ok-how.ensures.machine c.run_profiled.ensures.lines within c.run_profiled.ensures.spent c.in_ok-how.ensures.written on.0 (omega (arith, span.fits, on.1)) (omega (arith, forward)) due

pub returns-then-has_come-clause-counted : goal.returns-then-has_come-clause-counted
returns-then-has_come-clause-counted g c =
    let w = c.spans.invariant in
    let m0 = c.args.machine.now.machine in
    let m = c.spans.machine.machine in
    let n = c.run_profiled.new.machine.machine in
    let stop = c.span_end-stop.result in
    let until = c.args.until in
    let life = c.args.account.now.statistics.life in
    let old = out_of g.S.Sink.written g.S.Sink.faults c.args.out.now in
    let mid = out_of g.S.Sink.written g.S.Sink.faults c.spans.out in
    let new = out_of g.S.Sink.written g.S.Sink.faults c.run_profiled.new.out in
    let span = spanned watched_further deadline_of watched-feeds until m0 m.time m stop _ _ w.left w.along.machine w.within w.ahead c.span_end-stop.ensures c.now.ensures c.deadline_in.ensures in
    let within : n.time ≤ stop = omega (arith, c.run_profiled.ensures.within, span.forward) in
    let gone = gone-of life m0 m c.spans.account.profile c.spans.account.statistics n c.run_profiled.new.profile c.run_profiled.new.statistics c.requires.begins w.along.machine w.counted
    (gone-forward m n stop span.forward (c.run_profiled.ensures.goes w.lives) c.in_ok-how.ensures.machine) c.run_profiled.ensures.profile c.run_profiled.ensures.passed c.run_profiled.ensures.life c.in_ok-how.ensures.statistics c.run_profiled.ensures.few in
    (more-counted life m0 m c.spans.account.profile c.spans.account.statistics n c.run_profiled.new.profile c.run_profiled.new.statistics w.along.machine w.counted gone).count

pub returns-in_err-how-clause-broken : goal.returns-in_err-how-clause-broken
returns-in_err-how-clause-broken g c =
    let w = c.spans.invariant in
    let m0 = c.args.machine.now.machine in
    let m = c.spans.machine.machine in
    let n = c.run_profiled.new.machine.machine in
    let stop = c.span_end-stop.result in
    let until = c.args.until in
    let life = c.args.account.now.statistics.life in
    let old = out_of g.S.Sink.written g.S.Sink.faults c.args.out.now in
    let mid = out_of g.S.Sink.written g.S.Sink.faults c.spans.out in
    let new = out_of g.S.Sink.written g.S.Sink.faults c.run_profiled.new.out in
    let span = spanned watched_further deadline_of watched-feeds until m0 m.time m stop _ _ w.left w.along.machine w.within w.ahead c.span_end-stop.ensures c.now.ensures c.deadline_in.ensures in
    on-err c.from_residual.result (way-broken until life m0 old c.args.steps.now m mid c.spans.steps c.spans.account.profile c.spans.account.statistics w stop span n new c.run_profiled.new.steps c.run_profiled.new.profile c.run_profiled.new.statistics c.run_profiled.ensures.lines c.in_err-how.ensures.fails.failed)

use Rattle.std.proofs.Common.{◌+◌, ◌-◌, ◌<◌, refl, sym, ◌∙◌, ap, subst, arith}
use Rattle.std.specs.Prelude.{is_some, ◌||◌, ◌==◌}
use Rattle.kc_machine_spec.specs.Run.{end_of}
use Rattle.kc_machine_spec.specs.Text.{HasRun}
use Rattle.kc_cycles.specs.Life.{is_at}
use Rattle.kc_cycles.specs.Making.{deadline_of}
use Rattle.kc_cycles.proofs.Going.{left-at, along-first, along-next, along-lines, along-spent, ahead-none, left-first, spanned, spanned-time, spanned-ahead, over-either, over-neither, ends-over, ends-bitten, ends-lines, ends-spent, cut-lines, cut-spent, ran-over, on-err}
use Rattle.kc_cycles.proofs.Fitted.{pair-feeds}
use Rattle.kc_cycles.proofs.life.live.Goals as goal

pub spans-init : goal.spans-init
spans-init g c =
    record {
      states = 0;
      along = along-first _ _ _ _;
      lives = c.requires.lives;
      within = omega (arith, c.requires.first);
      ahead = ahead-none deadline_of c.args.machine.now.machine.board.units.further c.args.machine.now.machine.time c.requires.unfed;
      left = left-first _ deadline_of _ _ c.requires.first;
      unbroken = c.requires.unbroken;
    }

pub spans-preserved : goal.spans-preserved
spans-preserved g c =
    let i = c.spans.invariant in
    let m = c.spans.machine.machine in
    let n = c.run.new.self.machine in
    let stop = c.span_end-stop.result in
    let feeds = pair-feeds _ g.X.Extra.further.readable g.X.Extra.further.writable (λ t l e d. refl) (λ t d. refl) (λ w s t d. refl) (λ w s v t d. refl) in
    let span = spanned _ deadline_of feeds _ _ i.states m stop _ _ i.left i.along.machine i.within i.ahead c.span_end-stop.ensures c.now.ensures c.deadline_in.ensures in
    let along = along-next _ _ _ _ i.states (stop - m.time) (n.time - m.time) m _ _ n _ _ i.along c.in_ok-how.ensures.machine c.run.ensures.lines (omega (arith, c.run.ensures.within, span.forward)) c.run.ensures.spent in
    let on = over-neither n.ended stop c.args.until (ap (λ o. is_some o || (stop == c.args.until)) (sym c.ended.ensures) ∙ sym c.is_over.ensures ∙ c.if-is_over.false) in
    let time = spanned-time _ deadline_of feeds _ _ i.states m stop n span c.in_ok-how.ensures.machine on.0 in
    let none = ap (λ o. is_at o stop) (sym c.deadline_in-in-spans.ensures) ∙ sym c.has_come.ensures ∙ c.if-has_come.false in
    record {
      states = i.states + (stop - m.time);
      along = along;
      lives = on.0;
      within = omega (arith, time, span.fits);
      ahead = spanned-ahead _ deadline_of feeds _ _ i.states m stop n span i.ahead c.in_ok-how.ensures.machine time none;
      left = left-at _ deadline_of c.args.until c.args.machine.now.machine (i.states + (stop - m.time)) stop n.time (sym time) span.left;
      unbroken = c.in_ok-how.ensures.written;
    }

pub spans-smaller : goal.spans-smaller
spans-smaller g c =
    let i = c.spans.invariant in
    let m = c.spans.machine.machine in
    let n = c.run.new.self.machine in
    let stop = c.span_end-stop.result in
    let feeds = pair-feeds _ g.X.Extra.further.readable g.X.Extra.further.writable (λ t l e d. refl) (λ t d. refl) (λ w s t d. refl) (λ w s v t d. refl) in
    let span = spanned _ deadline_of feeds _ _ i.states m stop _ _ i.left i.along.machine i.within i.ahead c.span_end-stop.ensures c.now.ensures c.deadline_in.ensures in
    let on = over-neither n.ended stop c.args.until (ap (λ o. is_some o || (stop == c.args.until)) (sym c.ended.ensures) ∙ sym c.is_over.ensures ∙ c.if-is_over.false) in
    let time = spanned-time _ deadline_of feeds _ _ i.states m stop n span c.in_ok-how.ensures.machine on.0 in
    let forward = span.goes on.1 in
    omega (arith, time, forward, span.fits)

pub returns-then-is_over-clause-how : goal.returns-then-is_over-clause-how
returns-then-is_over-clause-how g c =
    let i = c.spans.invariant in
    let m = c.spans.machine.machine in
    let n = c.run.new.self.machine in
    let stop = c.span_end-stop.result in
    let feeds = pair-feeds _ g.X.Extra.further.readable g.X.Extra.further.writable (λ t l e d. refl) (λ t d. refl) (λ w s t d. refl) (λ w s v t d. refl) in
    let span = spanned _ deadline_of feeds _ _ i.states m stop _ _ i.left i.along.machine i.within i.ahead c.span_end-stop.ensures c.now.ensures c.deadline_in.ensures in
    let along = along-next _ _ _ _ i.states (stop - m.time) (n.time - m.time) m _ _ n _ _ i.along c.in_ok-how.ensures.machine c.run.ensures.lines (omega (arith, c.run.ensures.within, span.forward)) c.run.ensures.spent in
    let ends = ends-over _ deadline_of _ _ (i.states + (stop - m.time)) stop n span.left along.machine (over-either n.ended stop c.args.until (ap (λ o. is_some o || (stop == c.args.until)) (sym c.ended.ensures) ∙ sym c.is_over.ensures ∙ c.if-is_over.true)) in
    c.in_ok-how.ensures.end ∙ ap end_of (sym c.in_ok-how.ensures.machine) ∙ ends.how

pub returns-then-is_over-clause-by_watchdog : goal.returns-then-is_over-clause-by_watchdog
returns-then-is_over-clause-by_watchdog g c =
    let i = c.spans.invariant in
    let m = c.spans.machine.machine in
    let n = c.run.new.self.machine in
    let stop = c.span_end-stop.result in
    let feeds = pair-feeds _ g.X.Extra.further.readable g.X.Extra.further.writable (λ t l e d. refl) (λ t d. refl) (λ w s t d. refl) (λ w s v t d. refl) in
    let span = spanned _ deadline_of feeds _ _ i.states m stop _ _ i.left i.along.machine i.within i.ahead c.span_end-stop.ensures c.now.ensures c.deadline_in.ensures in
    let along = along-next _ _ _ _ i.states (stop - m.time) (n.time - m.time) m _ _ n _ _ i.along c.in_ok-how.ensures.machine c.run.ensures.lines (omega (arith, c.run.ensures.within, span.forward)) c.run.ensures.spent in
    let ends = ends-over _ deadline_of _ _ (i.states + (stop - m.time)) stop n span.left along.machine (over-either n.ended stop c.args.until (ap (λ o. is_some o || (stop == c.args.until)) (sym c.ended.ensures) ∙ sym c.is_over.ensures ∙ c.if-is_over.true)) in
    ends.by_watchdog

pub returns-then-is_over-clause-machine : goal.returns-then-is_over-clause-machine
returns-then-is_over-clause-machine g c =
    let i = c.spans.invariant in
    let m = c.spans.machine.machine in
    let n = c.run.new.self.machine in
    let stop = c.span_end-stop.result in
    let feeds = pair-feeds _ g.X.Extra.further.readable g.X.Extra.further.writable (λ t l e d. refl) (λ t d. refl) (λ w s t d. refl) (λ w s v t d. refl) in
    let span = spanned _ deadline_of feeds _ _ i.states m stop _ _ i.left i.along.machine i.within i.ahead c.span_end-stop.ensures c.now.ensures c.deadline_in.ensures in
    let along = along-next _ _ _ _ i.states (stop - m.time) (n.time - m.time) m _ _ n _ _ i.along c.in_ok-how.ensures.machine c.run.ensures.lines (omega (arith, c.run.ensures.within, span.forward)) c.run.ensures.spent in
    let ends = ends-over _ deadline_of _ _ (i.states + (stop - m.time)) stop n span.left along.machine (over-either n.ended stop c.args.until (ap (λ o. is_some o || (stop == c.args.until)) (sym c.ended.ensures) ∙ sym c.is_over.ensures ∙ c.if-is_over.true)) in
    ends.machine

pub returns-then-is_over-clause-lines : goal.returns-then-is_over-clause-lines
returns-then-is_over-clause-lines g c =
    let i = c.spans.invariant in
    let m = c.spans.machine.machine in
    let n = c.run.new.self.machine in
    let stop = c.span_end-stop.result in
    let feeds = pair-feeds _ g.X.Extra.further.readable g.X.Extra.further.writable (λ t l e d. refl) (λ t d. refl) (λ w s t d. refl) (λ w s v t d. refl) in
    let span = spanned _ deadline_of feeds _ _ i.states m stop _ _ i.left i.along.machine i.within i.ahead c.span_end-stop.ensures c.now.ensures c.deadline_in.ensures in
    let along = along-next _ _ _ _ i.states (stop - m.time) (n.time - m.time) m _ _ n _ _ i.along c.in_ok-how.ensures.machine c.run.ensures.lines (omega (arith, c.run.ensures.within, span.forward)) c.run.ensures.spent in
    let ends = ends-over _ deadline_of _ _ (i.states + (stop - m.time)) stop n span.left along.machine (over-either n.ended stop c.args.until (ap (λ o. is_some o || (stop == c.args.until)) (sym c.ended.ensures) ∙ sym c.is_over.ensures ∙ c.if-is_over.true)) in
    ends-lines _ deadline_of _ _ _ _ _ _ _ _ ends along.lines

pub returns-then-is_over-clause-spent : goal.returns-then-is_over-clause-spent
returns-then-is_over-clause-spent g c =
    let i = c.spans.invariant in
    let m = c.spans.machine.machine in
    let n = c.run.new.self.machine in
    let stop = c.span_end-stop.result in
    let feeds = pair-feeds _ g.X.Extra.further.readable g.X.Extra.further.writable (λ t l e d. refl) (λ t d. refl) (λ w s t d. refl) (λ w s v t d. refl) in
    let span = spanned _ deadline_of feeds _ _ i.states m stop _ _ i.left i.along.machine i.within i.ahead c.span_end-stop.ensures c.now.ensures c.deadline_in.ensures in
    let along = along-next _ _ _ _ i.states (stop - m.time) (n.time - m.time) m _ _ n _ _ i.along c.in_ok-how.ensures.machine c.run.ensures.lines (omega (arith, c.run.ensures.within, span.forward)) c.run.ensures.spent in
    let ends = ends-over _ deadline_of _ _ (i.states + (stop - m.time)) stop n span.left along.machine (over-either n.ended stop c.args.until (ap (λ o. is_some o || (stop == c.args.until)) (sym c.ended.ensures) ∙ sym c.is_over.ensures ∙ c.if-is_over.true)) in
    ends-spent _ deadline_of _ _ _ _ _ _ _ _ ends along.spent

pub returns-then-is_over-clause-ran : goal.returns-then-is_over-clause-ran
returns-then-is_over-clause-ran g c =
    let i = c.spans.invariant in
    let m = c.spans.machine.machine in
    let n = c.run.new.self.machine in
    let stop = c.span_end-stop.result in
    let feeds = pair-feeds _ g.X.Extra.further.readable g.X.Extra.further.writable (λ t l e d. refl) (λ t d. refl) (λ w s t d. refl) (λ w s v t d. refl) in
    let span = spanned _ deadline_of feeds _ _ i.states m stop _ _ i.left i.along.machine i.within i.ahead c.span_end-stop.ensures c.now.ensures c.deadline_in.ensures in
    let along = along-next _ _ _ _ i.states (stop - m.time) (n.time - m.time) m _ _ n _ _ i.along c.in_ok-how.ensures.machine c.run.ensures.lines (omega (arith, c.run.ensures.within, span.forward)) c.run.ensures.spent in
    subst (λ how. HasRun how n.time) (sym (c.in_ok-how.ensures.end ∙ ap end_of (sym c.in_ok-how.ensures.machine))) (ran-over _ deadline_of c.args.until _ (i.states + (stop - m.time)) n along.machine c.requires.lives)

pub returns-then-is_over-clause-within : goal.returns-then-is_over-clause-within
returns-then-is_over-clause-within g c =
    let i = c.spans.invariant in
    let m = c.spans.machine.machine in
    let n = c.run.new.self.machine in
    let stop = c.span_end-stop.result in
    let feeds = pair-feeds _ g.X.Extra.further.readable g.X.Extra.further.writable (λ t l e d. refl) (λ t d. refl) (λ w s t d. refl) (λ w s v t d. refl) in
    let span = spanned _ deadline_of feeds _ _ i.states m stop _ _ i.left i.along.machine i.within i.ahead c.span_end-stop.ensures c.now.ensures c.deadline_in.ensures in
    omega (arith, c.run.ensures.within, span.forward, span.fits)

pub returns-then-has_come-clause-how : goal.returns-then-has_come-clause-how
returns-then-has_come-clause-how g c =
    let i = c.spans.invariant in
    let m = c.spans.machine.machine in
    let n = c.run.new.self.machine in
    let stop = c.span_end-stop.result in
    let feeds = pair-feeds _ g.X.Extra.further.readable g.X.Extra.further.writable (λ t l e d. refl) (λ t d. refl) (λ w s t d. refl) (λ w s v t d. refl) in
    let span = spanned _ deadline_of feeds _ _ i.states m stop _ _ i.left i.along.machine i.within i.ahead c.span_end-stop.ensures c.now.ensures c.deadline_in.ensures in
    let along = along-next _ _ _ _ i.states (stop - m.time) (n.time - m.time) m _ _ n _ _ i.along c.in_ok-how.ensures.machine c.run.ensures.lines (omega (arith, c.run.ensures.within, span.forward)) c.run.ensures.spent in
    let on = over-neither n.ended stop c.args.until (ap (λ o. is_some o || (stop == c.args.until)) (sym c.ended.ensures) ∙ sym c.is_over.ensures ∙ c.if-is_over.false) in
    let time = spanned-time _ deadline_of feeds _ _ i.states m stop n span c.in_ok-how.ensures.machine on.0 in
    let due = ap (λ t. is_at (deadline_of n.board.units.further) t) time ∙ ap (λ o. is_at o stop) (sym c.deadline_in-in-spans.ensures) ∙ sym c.has_come.ensures ∙ c.if-has_come.true in
    let more : stop < c.args.until = omega (arith, span.fits, on.1) in
    let ends = ends-bitten _ deadline_of _ _ (i.states + (stop - m.time)) stop n span.left along.machine more on.0 due in
    ends.how

pub returns-then-has_come-clause-by_watchdog : goal.returns-then-has_come-clause-by_watchdog
returns-then-has_come-clause-by_watchdog g c =
    let i = c.spans.invariant in
    let m = c.spans.machine.machine in
    let n = c.run.new.self.machine in
    let stop = c.span_end-stop.result in
    let feeds = pair-feeds _ g.X.Extra.further.readable g.X.Extra.further.writable (λ t l e d. refl) (λ t d. refl) (λ w s t d. refl) (λ w s v t d. refl) in
    let span = spanned _ deadline_of feeds _ _ i.states m stop _ _ i.left i.along.machine i.within i.ahead c.span_end-stop.ensures c.now.ensures c.deadline_in.ensures in
    let along = along-next _ _ _ _ i.states (stop - m.time) (n.time - m.time) m _ _ n _ _ i.along c.in_ok-how.ensures.machine c.run.ensures.lines (omega (arith, c.run.ensures.within, span.forward)) c.run.ensures.spent in
    let on = over-neither n.ended stop c.args.until (ap (λ o. is_some o || (stop == c.args.until)) (sym c.ended.ensures) ∙ sym c.is_over.ensures ∙ c.if-is_over.false) in
    let time = spanned-time _ deadline_of feeds _ _ i.states m stop n span c.in_ok-how.ensures.machine on.0 in
    let due = ap (λ t. is_at (deadline_of n.board.units.further) t) time ∙ ap (λ o. is_at o stop) (sym c.deadline_in-in-spans.ensures) ∙ sym c.has_come.ensures ∙ c.if-has_come.true in
    let more : stop < c.args.until = omega (arith, span.fits, on.1) in
    let ends = ends-bitten _ deadline_of _ _ (i.states + (stop - m.time)) stop n span.left along.machine more on.0 due in
    ends.by_watchdog

pub returns-then-has_come-clause-machine : goal.returns-then-has_come-clause-machine
returns-then-has_come-clause-machine g c =
    let i = c.spans.invariant in
    let m = c.spans.machine.machine in
    let n = c.run.new.self.machine in
    let stop = c.span_end-stop.result in
    let feeds = pair-feeds _ g.X.Extra.further.readable g.X.Extra.further.writable (λ t l e d. refl) (λ t d. refl) (λ w s t d. refl) (λ w s v t d. refl) in
    let span = spanned _ deadline_of feeds _ _ i.states m stop _ _ i.left i.along.machine i.within i.ahead c.span_end-stop.ensures c.now.ensures c.deadline_in.ensures in
    let along = along-next _ _ _ _ i.states (stop - m.time) (n.time - m.time) m _ _ n _ _ i.along c.in_ok-how.ensures.machine c.run.ensures.lines (omega (arith, c.run.ensures.within, span.forward)) c.run.ensures.spent in
    let on = over-neither n.ended stop c.args.until (ap (λ o. is_some o || (stop == c.args.until)) (sym c.ended.ensures) ∙ sym c.is_over.ensures ∙ c.if-is_over.false) in
    let time = spanned-time _ deadline_of feeds _ _ i.states m stop n span c.in_ok-how.ensures.machine on.0 in
    let due = ap (λ t. is_at (deadline_of n.board.units.further) t) time ∙ ap (λ o. is_at o stop) (sym c.deadline_in-in-spans.ensures) ∙ sym c.has_come.ensures ∙ c.if-has_come.true in
    let more : stop < c.args.until = omega (arith, span.fits, on.1) in
    let ends = ends-bitten _ deadline_of _ _ (i.states + (stop - m.time)) stop n span.left along.machine more on.0 due in
    ends.machine

pub returns-then-has_come-clause-lines : goal.returns-then-has_come-clause-lines
returns-then-has_come-clause-lines g c =
    let i = c.spans.invariant in
    let m = c.spans.machine.machine in
    let n = c.run.new.self.machine in
    let stop = c.span_end-stop.result in
    let feeds = pair-feeds _ g.X.Extra.further.readable g.X.Extra.further.writable (λ t l e d. refl) (λ t d. refl) (λ w s t d. refl) (λ w s v t d. refl) in
    let span = spanned _ deadline_of feeds _ _ i.states m stop _ _ i.left i.along.machine i.within i.ahead c.span_end-stop.ensures c.now.ensures c.deadline_in.ensures in
    let along = along-next _ _ _ _ i.states (stop - m.time) (n.time - m.time) m _ _ n _ _ i.along c.in_ok-how.ensures.machine c.run.ensures.lines (omega (arith, c.run.ensures.within, span.forward)) c.run.ensures.spent in
    let on = over-neither n.ended stop c.args.until (ap (λ o. is_some o || (stop == c.args.until)) (sym c.ended.ensures) ∙ sym c.is_over.ensures ∙ c.if-is_over.false) in
    let time = spanned-time _ deadline_of feeds _ _ i.states m stop n span c.in_ok-how.ensures.machine on.0 in
    let due = ap (λ t. is_at (deadline_of n.board.units.further) t) time ∙ ap (λ o. is_at o stop) (sym c.deadline_in-in-spans.ensures) ∙ sym c.has_come.ensures ∙ c.if-has_come.true in
    let more : stop < c.args.until = omega (arith, span.fits, on.1) in
    let ends = ends-bitten _ deadline_of _ _ (i.states + (stop - m.time)) stop n span.left along.machine more on.0 due in
    ends-lines _ deadline_of _ _ _ _ _ _ _ _ ends along.lines

pub returns-then-has_come-clause-spent : goal.returns-then-has_come-clause-spent
returns-then-has_come-clause-spent g c =
    let i = c.spans.invariant in
    let m = c.spans.machine.machine in
    let n = c.run.new.self.machine in
    let stop = c.span_end-stop.result in
    let feeds = pair-feeds _ g.X.Extra.further.readable g.X.Extra.further.writable (λ t l e d. refl) (λ t d. refl) (λ w s t d. refl) (λ w s v t d. refl) in
    let span = spanned _ deadline_of feeds _ _ i.states m stop _ _ i.left i.along.machine i.within i.ahead c.span_end-stop.ensures c.now.ensures c.deadline_in.ensures in
    let along = along-next _ _ _ _ i.states (stop - m.time) (n.time - m.time) m _ _ n _ _ i.along c.in_ok-how.ensures.machine c.run.ensures.lines (omega (arith, c.run.ensures.within, span.forward)) c.run.ensures.spent in
    let on = over-neither n.ended stop c.args.until (ap (λ o. is_some o || (stop == c.args.until)) (sym c.ended.ensures) ∙ sym c.is_over.ensures ∙ c.if-is_over.false) in
    let time = spanned-time _ deadline_of feeds _ _ i.states m stop n span c.in_ok-how.ensures.machine on.0 in
    let due = ap (λ t. is_at (deadline_of n.board.units.further) t) time ∙ ap (λ o. is_at o stop) (sym c.deadline_in-in-spans.ensures) ∙ sym c.has_come.ensures ∙ c.if-has_come.true in
    let more : stop < c.args.until = omega (arith, span.fits, on.1) in
    let ends = ends-bitten _ deadline_of _ _ (i.states + (stop - m.time)) stop n span.left along.machine more on.0 due in
    ends-spent _ deadline_of _ _ _ _ _ _ _ _ ends along.spent

pub returns-then-has_come-clause-ran : goal.returns-then-has_come-clause-ran
returns-then-has_come-clause-ran g c =
    let i = c.spans.invariant in
    let m = c.spans.machine.machine in
    let n = c.run.new.self.machine in
    let stop = c.span_end-stop.result in
    let feeds = pair-feeds _ g.X.Extra.further.readable g.X.Extra.further.writable (λ t l e d. refl) (λ t d. refl) (λ w s t d. refl) (λ w s v t d. refl) in
    let span = spanned _ deadline_of feeds _ _ i.states m stop _ _ i.left i.along.machine i.within i.ahead c.span_end-stop.ensures c.now.ensures c.deadline_in.ensures in
    let on = over-neither n.ended stop c.args.until (ap (λ o. is_some o || (stop == c.args.until)) (sym c.ended.ensures) ∙ sym c.is_over.ensures ∙ c.if-is_over.false) in
    let time = spanned-time _ deadline_of feeds _ _ i.states m stop n span c.in_ok-how.ensures.machine on.0 in
    let forward = span.goes on.1 in
    omega (arith, time, forward)

pub returns-then-has_come-clause-within : goal.returns-then-has_come-clause-within
returns-then-has_come-clause-within g c =
    let i = c.spans.invariant in
    let m = c.spans.machine.machine in
    let n = c.run.new.self.machine in
    let stop = c.span_end-stop.result in
    let feeds = pair-feeds _ g.X.Extra.further.readable g.X.Extra.further.writable (λ t l e d. refl) (λ t d. refl) (λ w s t d. refl) (λ w s v t d. refl) in
    let span = spanned _ deadline_of feeds _ _ i.states m stop _ _ i.left i.along.machine i.within i.ahead c.span_end-stop.ensures c.now.ensures c.deadline_in.ensures in
    omega (arith, c.run.ensures.within, span.forward, span.fits)

pub returns-in_err-how-clause-lines : goal.returns-in_err-how-clause-lines
returns-in_err-how-clause-lines g c =
    let i = c.spans.invariant in
    let m = c.spans.machine.machine in
    let n = c.run.new.self.machine in
    let stop = c.span_end-stop.result in
    let feeds = pair-feeds _ g.X.Extra.further.readable g.X.Extra.further.writable (λ t l e d. refl) (λ t d. refl) (λ w s t d. refl) (λ w s v t d. refl) in
    let span = spanned _ deadline_of feeds _ _ i.states m stop _ _ i.left i.along.machine i.within i.ahead c.span_end-stop.ensures c.now.ensures c.deadline_in.ensures in
    let lines = along-lines _ _ _ _ i.states (stop - m.time) m _ _ _ i.along c.run.ensures.lines in
    cut-lines _ deadline_of _ _ (i.states + (stop - m.time)) stop _ _ span.left c.in_err-how.ensures.fails.failed lines

pub returns-in_err-how-clause-spent : goal.returns-in_err-how-clause-spent
returns-in_err-how-clause-spent g c =
    let i = c.spans.invariant in
    let m = c.spans.machine.machine in
    let n = c.run.new.self.machine in
    let stop = c.span_end-stop.result in
    let feeds = pair-feeds _ g.X.Extra.further.readable g.X.Extra.further.writable (λ t l e d. refl) (λ t d. refl) (λ w s t d. refl) (λ w s v t d. refl) in
    let span = spanned _ deadline_of feeds _ _ i.states m stop _ _ i.left i.along.machine i.within i.ahead c.span_end-stop.ensures c.now.ensures c.deadline_in.ensures in
    let spent = along-spent _ _ _ _ i.states (stop - m.time) (n.time - m.time) m _ _ _ i.along (omega (arith, c.run.ensures.within, span.forward)) c.run.ensures.spent in
    cut-spent _ deadline_of _ _ (i.states + (stop - m.time)) stop _ _ span.left spent

pub returns-in_err-how-clause-within : goal.returns-in_err-how-clause-within
returns-in_err-how-clause-within g c =
    let i = c.spans.invariant in
    let m = c.spans.machine.machine in
    let n = c.run.new.self.machine in
    let stop = c.span_end-stop.result in
    let feeds = pair-feeds _ g.X.Extra.further.readable g.X.Extra.further.writable (λ t l e d. refl) (λ t d. refl) (λ w s t d. refl) (λ w s v t d. refl) in
    let span = spanned _ deadline_of feeds _ _ i.states m stop _ _ i.left i.along.machine i.within i.ahead c.span_end-stop.ensures c.now.ensures c.deadline_in.ensures in
    omega (arith, c.run.ensures.within, span.forward, span.fits)

pub returns-in_err-how-clause-failed : goal.returns-in_err-how-clause-failed
returns-in_err-how-clause-failed g c = on-err c.from_residual.result c.in_err-how.ensures.fails.failed

use Rattle.std.proofs.Common.{◌≡◌, ◌+◌, ◌-◌, inl, inr, refl, sym, ap, subst, ◌∙◌, arith, false, true}
use Rattle.kc_machine_spec.specs.Machine.{Machine}
use Rattle.kc_debug.specs.Passing.{IsClear, Stood}
use Rattle.kc_debug.specs.Stops.{Stopping, stops_behind}
use Rattle.kc_extra.specs.contracts.pair_unit.PairExtra.TheImpl as pair
use Rattle.kc_cycles.specs.contracts.watchdog.Watchdog as watchdog_type
use Rattle.kc_cycles.specs.contracts.watchdog.WatchdogExtra.TheImpl as watchdog
use Rattle.kc_cycles.specs.Life.{is_at}
use Rattle.kc_cycles.specs.Making.{deadline_of}
use Rattle.kc_cycles.proofs.Fitted.{pair-feeds}
use Rattle.kc_debug.proofs.Onward.{followed-so, followed-up}
use Rattle.kc_debug.proofs.Passing.{some_end, none_end, along-kept}
use Rattle.kc_debug.proofs.Lived.{ahead, late-run, clear-span, stop-goes, stop-within, living-counts, living-lines, living-over, living-late, living-lived, living-next, living-cut, running-at-once, running-first, running-more, running-over, running-part, running-stop, running-next}
use Rattle.kc_debug.proofs.living.go_in_life.Goals as goal

pub loop-machine-init : goal.loop-machine-init
loop-machine-init g c = record {
  states = 0;
  running = running-first _ deadline_of (g.T.Stops.stopping c.args.stops.now) c.args.until c.args.machine.now.machine c.begin.new.machine.machine _ c.args.begun.now c.begin.ensures.same c.requires.kept c.requires.in_time c.requires.unbroken;
  follows = c.begin.ensures.follows;
  stops = c.begin.ensures.stays.0;
  settings = c.begin.ensures.stays.2;
}

pub pass-requires-clause-kept : goal.pass-requires-clause-kept
pass-requires-clause-kept g c = along-kept _ _ _ _ _ _ _ _ c.loop-machine.invariant.running.living.along

pub pass-requires-clause-lives : goal.pass-requires-clause-lives
pass-requires-clause-lives g c = sym c.ended.ensures ∙ none_end c.ended.result c.is_some.result c.if-is_some.false c.is_some.ensures

pub pass-requires-clause-ahead : goal.pass-requires-clause-ahead
pass-requires-clause-ahead g c =
    let m = c.loop-machine.machine.machine in
    let before = ahead (deadline_of m.board.units.further) m.time c.loop-machine.invariant.running.living.in_time
    (ap (λ o. is_at o m.time) (sym c.deadline_in-deadline.ensures) ∙ ap (is_at c.deadline_in-deadline.result) (sym c.now-now.ensures) ∙ sym c.has_come.ensures ∙ c.if-has_come.false) in
    stop-goes (deadline_of m.board.units.further) c.deadline_in-deadline.result m.time c.now-now.result c.args.until c.span_end-stop.result c.span_end-stop.ensures c.now-now.ensures c.deadline_in-deadline.ensures before (omega (arith, c.loop-machine-test.true, c.now.ensures))

pub pass-requires-clause-room : goal.pass-requires-clause-room
pass-requires-clause-room g c =
    let le = stop-within c.deadline_in-deadline.result c.now-now.result c.args.until c.span_end-stop.result c.span_end-stop.ensures in
    omega (arith, le, c.requires.room)

pub pass-requires-clause-unbroken : goal.pass-requires-clause-unbroken
pass-requires-clause-unbroken g c = c.loop-machine.invariant.running.living.unbroken

-- ---- an end of the life

pub returns-then-is_some-clause-lines : goal.returns-then-is_some-clause-lines
returns-then-is_some-clause-lines g c =
    let v = c.loop-machine.invariant in
    let s = v.running in
    let how = some_end c.ended.result c.is_some.result c.if-is_some.true c.is_some.ensures in
    let ends = living-over _ deadline_of _ _ _ c.args.begun.now v.states _ _ _ s.living (inl (how.0, sym c.ended.ensures ∙ how.1)) in
    living-lines _ deadline_of _ _ _ c.args.begun.now v.states _ _ _ s.living false ends

pub returns-then-is_some-clause-counts : goal.returns-then-is_some-clause-counts
returns-then-is_some-clause-counts g c =
    let v = c.loop-machine.invariant in
    let s = v.running in
    let how = some_end c.ended.result c.is_some.result c.if-is_some.true c.is_some.ensures in
    let ends = living-over _ deadline_of _ _ _ c.args.begun.now v.states _ _ _ s.living (inl (how.0, sym c.ended.ensures ∙ how.1)) in
    living-counts _ deadline_of _ _ _ c.args.begun.now v.states _ _ _ s.living false ends

pub returns-then-is_some-clause-lived : goal.returns-then-is_some-clause-lived
returns-then-is_some-clause-lived g c =
    let v = c.loop-machine.invariant in
    let s = v.running in
    let how = some_end c.ended.result c.is_some.result c.if-is_some.true c.is_some.ensures in
    let ends = living-over _ deadline_of _ _ _ c.args.begun.now v.states _ _ _ s.living (inl (how.0, sym c.ended.ensures ∙ how.1)) in
    living-lived _ deadline_of _ _ _ c.args.begun.now v.states _ _ _ s.living false ends c.requires.ran (λ e. absurd cc)

pub returns-then-is_some-clause-time : goal.returns-then-is_some-clause-time
returns-then-is_some-clause-time g c = c.loop-machine.invariant.running.time

-- ---- its deadline

pub returns-then-has_come-clause-lines : goal.returns-then-has_come-clause-lines
returns-then-has_come-clause-lines g c =
    let v = c.loop-machine.invariant in
    let s = v.running in
    let m = c.loop-machine.machine.machine in
    let due = ap (λ o. is_at o m.time) (sym c.deadline_in-deadline.ensures) ∙ ap (is_at c.deadline_in-deadline.result) (sym c.now-now.ensures) ∙ sym c.has_come.ensures ∙ c.if-has_come.true in
    let lives = sym c.ended.ensures ∙ none_end c.ended.result c.is_some.result c.if-is_some.false c.is_some.ensures in
    let more = running-more _ deadline_of _ _ v.states _ _ _ _ _ _ s (omega (arith, c.loop-machine-test.true, c.now.ensures)) in
    let ends = living-late _ deadline_of _ _ _ c.args.begun.now v.states _ _ _ s.living more lives due in
    living-lines _ deadline_of _ _ _ c.args.begun.now v.states _ _ _ s.living true ends

pub returns-then-has_come-clause-counts : goal.returns-then-has_come-clause-counts
returns-then-has_come-clause-counts g c =
    let v = c.loop-machine.invariant in
    let s = v.running in
    let m = c.loop-machine.machine.machine in
    let due = ap (λ o. is_at o m.time) (sym c.deadline_in-deadline.ensures) ∙ ap (is_at c.deadline_in-deadline.result) (sym c.now-now.ensures) ∙ sym c.has_come.ensures ∙ c.if-has_come.true in
    let lives = sym c.ended.ensures ∙ none_end c.ended.result c.is_some.result c.if-is_some.false c.is_some.ensures in
    let more = running-more _ deadline_of _ _ v.states _ _ _ _ _ _ s (omega (arith, c.loop-machine-test.true, c.now.ensures)) in
    let ends = living-late _ deadline_of _ _ _ c.args.begun.now v.states _ _ _ s.living more lives due in
    living-counts _ deadline_of _ _ _ c.args.begun.now v.states _ _ _ s.living true ends

pub returns-then-has_come-clause-lived : goal.returns-then-has_come-clause-lived
returns-then-has_come-clause-lived g c =
    let v = c.loop-machine.invariant in
    let s = v.running in
    let m = c.loop-machine.machine.machine in
    let due = ap (λ o. is_at o m.time) (sym c.deadline_in-deadline.ensures) ∙ ap (is_at c.deadline_in-deadline.result) (sym c.now-now.ensures) ∙ sym c.has_come.ensures ∙ c.if-has_come.true in
    let lives = sym c.ended.ensures ∙ none_end c.ended.result c.is_some.result c.if-is_some.false c.is_some.ensures in
    let more = running-more _ deadline_of _ _ v.states _ _ _ _ _ _ s (omega (arith, c.loop-machine-test.true, c.now.ensures)) in
    let ends = living-late _ deadline_of _ _ _ c.args.begun.now v.states _ _ _ s.living more lives due in
    living-lived _ deadline_of _ _ _ c.args.begun.now v.states _ _ _ s.living true ends c.requires.ran (λ e. late-run (deadline_of m.board.units.further) m.time s.living.in_time due)

pub returns-then-has_come-clause-time : goal.returns-then-has_come-clause-time
returns-then-has_come-clause-time g c = c.loop-machine.invariant.running.time

-- ---- some states more

pub returns-in_err-pass-clause-lines : goal.returns-in_err-pass-clause-lines
returns-in_err-pass-clause-lines g c =
    let v = c.loop-machine.invariant in
    let s = v.running in
    let m = c.loop-machine.machine.machine in
    let h = c.in_err-pass.ensures.passed in
    let feeds = pair-feeds _ g.X.Extra.further.readable g.X.Extra.further.writable (λ t l e d. refl) (λ t d. refl) (λ w s t d. refl) (λ w s v t d. refl) in
    let le = stop-within c.deadline_in-deadline.result c.now-now.result c.args.until c.span_end-stop.result c.span_end-stop.ensures in
    let free = subst (λ (k : Stopping _). IsClear (pair.ghosts g.row.X watchdog_type.the_row g.X.Extra pair.no_dict watchdog.ghosts pair.no_dict).further k h.0 m) v.stops h.2 in
    let clear = clear-span _ deadline_of m c.deadline_in-deadline.result c.now-now.result c.args.until c.span_end-stop.result h.0 s.living.in_time c.span_end-stop.ensures c.now-now.ensures c.deadline_in-deadline.ensures h.1 in
    let few = running-part _ deadline_of _ c.args.until v.states _ m _ _ _ _ s h.0 (omega (arith, h.1, le)) h.4.some free in
    living-cut _ deadline_of feeds _ _ _ _ v.states h.0 _ _ _ s.living few clear _ _ h.4 c.in_err-pass.ensures.fault.failed

pub returns-in_err-pass-clause-time : goal.returns-in_err-pass-clause-time
returns-in_err-pass-clause-time g c =
    let le = stop-within c.deadline_in-deadline.result c.now-now.result c.args.until c.span_end-stop.result c.span_end-stop.ensures in
    omega (arith, le, c.pass.ensures.within)

pub returns-then-are_met-clause-lines : goal.returns-then-are_met-clause-lines
returns-then-are_met-clause-lines g c =
    let v = c.loop-machine.invariant in
    let s = v.running in
    let m = c.loop-machine.machine.machine in
    let h = c.in_ok-pass.ensures.passed in
    let feeds = pair-feeds _ g.X.Extra.further.readable g.X.Extra.further.writable (λ t l e d. refl) (λ t d. refl) (λ w s t d. refl) (λ w s v t d. refl) in
    let le = stop-within c.deadline_in-deadline.result c.now-now.result c.args.until c.span_end-stop.result c.span_end-stop.ensures in
    let free = subst (λ (k : Stopping _). IsClear (pair.ghosts g.row.X watchdog_type.the_row g.X.Extra pair.no_dict watchdog.ghosts pair.no_dict).further k h.0 m) v.stops h.2 in
    let clear = clear-span _ deadline_of m c.deadline_in-deadline.result c.now-now.result c.args.until c.span_end-stop.result h.0 s.living.in_time c.span_end-stop.ensures c.now-now.ensures c.deadline_in-deadline.ensures h.1 in
    let few = running-part _ deadline_of _ c.args.until v.states _ m _ _ _ _ s h.0 (omega (arith, h.1, le)) h.4.some free in
    let same = c.are_met.ensures.same in
    let stood : Stood (pair.ghosts g.row.X watchdog_type.the_row g.X.Extra pair.no_dict watchdog.ghosts pair.no_dict).further h.0 m c.are_met.new.machine.machine = record { machine = same ∙ h.7.machine; time = ap (λ (y : Machine _). y.time) same ∙ h.7.time } in
    let next = living-next _ deadline_of feeds _ _ _ _ v.states h.0 _ _ _ s.living few clear _ _ h.4 _ stood c.in_ok-pass.ensures.fault.written in
    let lives = ap (λ (y : Machine _). y.ended) (sym s.living.along.machine) ∙ sym c.ended.ensures ∙ none_end c.ended.result c.is_some.result c.if-is_some.false c.is_some.ensures in
    let met = c.are_met.ensures.met _ _ v.states h.0 v.follows h.4.some (running-at-once _ deadline_of _ c.args.until v.states _ m _ _ _ _ s h.0 h.3) lives (sym same ∙ next.along.machine) next.along.lines c.in_ok-pass.ensures.fault.written in
    let here = ap (λ (k : Stopping _). stops_behind (pair.ghosts g.row.X watchdog_type.the_row g.X.Extra pair.no_dict watchdog.ghosts pair.no_dict).further k false (v.states + h.0) c.args.machine.now.machine) (sym v.stops) ∙ sym met.0 ∙ c.if-are_met.true in
    let over = running-stop _ deadline_of _ c.args.until v.states _ m _ _ _ _ s h.0 (omega (arith, h.1, le)) h.4.some free here in
    let ends = living-over _ deadline_of _ _ _ c.args.begun.now (v.states + h.0) _ _ _ next (inr over) in
    living-lines _ deadline_of _ _ _ c.args.begun.now (v.states + h.0) _ _ _ next false ends

pub returns-then-are_met-clause-counts : goal.returns-then-are_met-clause-counts
returns-then-are_met-clause-counts g c =
    let v = c.loop-machine.invariant in
    let s = v.running in
    let m = c.loop-machine.machine.machine in
    let h = c.in_ok-pass.ensures.passed in
    let feeds = pair-feeds _ g.X.Extra.further.readable g.X.Extra.further.writable (λ t l e d. refl) (λ t d. refl) (λ w s t d. refl) (λ w s v t d. refl) in
    let le = stop-within c.deadline_in-deadline.result c.now-now.result c.args.until c.span_end-stop.result c.span_end-stop.ensures in
    let free = subst (λ (k : Stopping _). IsClear (pair.ghosts g.row.X watchdog_type.the_row g.X.Extra pair.no_dict watchdog.ghosts pair.no_dict).further k h.0 m) v.stops h.2 in
    let clear = clear-span _ deadline_of m c.deadline_in-deadline.result c.now-now.result c.args.until c.span_end-stop.result h.0 s.living.in_time c.span_end-stop.ensures c.now-now.ensures c.deadline_in-deadline.ensures h.1 in
    let few = running-part _ deadline_of _ c.args.until v.states _ m _ _ _ _ s h.0 (omega (arith, h.1, le)) h.4.some free in
    let same = c.are_met.ensures.same in
    let stood : Stood (pair.ghosts g.row.X watchdog_type.the_row g.X.Extra pair.no_dict watchdog.ghosts pair.no_dict).further h.0 m c.are_met.new.machine.machine = record { machine = same ∙ h.7.machine; time = ap (λ (y : Machine _). y.time) same ∙ h.7.time } in
    let next = living-next _ deadline_of feeds _ _ _ _ v.states h.0 _ _ _ s.living few clear _ _ h.4 _ stood c.in_ok-pass.ensures.fault.written in
    let lives = ap (λ (y : Machine _). y.ended) (sym s.living.along.machine) ∙ sym c.ended.ensures ∙ none_end c.ended.result c.is_some.result c.if-is_some.false c.is_some.ensures in
    let met = c.are_met.ensures.met _ _ v.states h.0 v.follows h.4.some (running-at-once _ deadline_of _ c.args.until v.states _ m _ _ _ _ s h.0 h.3) lives (sym same ∙ next.along.machine) next.along.lines c.in_ok-pass.ensures.fault.written in
    let here = ap (λ (k : Stopping _). stops_behind (pair.ghosts g.row.X watchdog_type.the_row g.X.Extra pair.no_dict watchdog.ghosts pair.no_dict).further k false (v.states + h.0) c.args.machine.now.machine) (sym v.stops) ∙ sym met.0 ∙ c.if-are_met.true in
    let over = running-stop _ deadline_of _ c.args.until v.states _ m _ _ _ _ s h.0 (omega (arith, h.1, le)) h.4.some free here in
    let ends = living-over _ deadline_of _ _ _ c.args.begun.now (v.states + h.0) _ _ _ next (inr over) in
    living-counts _ deadline_of _ _ _ c.args.begun.now (v.states + h.0) _ _ _ next false ends

pub returns-then-are_met-clause-lived : goal.returns-then-are_met-clause-lived
returns-then-are_met-clause-lived g c =
    let v = c.loop-machine.invariant in
    let s = v.running in
    let m = c.loop-machine.machine.machine in
    let h = c.in_ok-pass.ensures.passed in
    let feeds = pair-feeds _ g.X.Extra.further.readable g.X.Extra.further.writable (λ t l e d. refl) (λ t d. refl) (λ w s t d. refl) (λ w s v t d. refl) in
    let le = stop-within c.deadline_in-deadline.result c.now-now.result c.args.until c.span_end-stop.result c.span_end-stop.ensures in
    let free = subst (λ (k : Stopping _). IsClear (pair.ghosts g.row.X watchdog_type.the_row g.X.Extra pair.no_dict watchdog.ghosts pair.no_dict).further k h.0 m) v.stops h.2 in
    let clear = clear-span _ deadline_of m c.deadline_in-deadline.result c.now-now.result c.args.until c.span_end-stop.result h.0 s.living.in_time c.span_end-stop.ensures c.now-now.ensures c.deadline_in-deadline.ensures h.1 in
    let few = running-part _ deadline_of _ c.args.until v.states _ m _ _ _ _ s h.0 (omega (arith, h.1, le)) h.4.some free in
    let same = c.are_met.ensures.same in
    let stood : Stood (pair.ghosts g.row.X watchdog_type.the_row g.X.Extra pair.no_dict watchdog.ghosts pair.no_dict).further h.0 m c.are_met.new.machine.machine = record { machine = same ∙ h.7.machine; time = ap (λ (y : Machine _). y.time) same ∙ h.7.time } in
    let next = living-next _ deadline_of feeds _ _ _ _ v.states h.0 _ _ _ s.living few clear _ _ h.4 _ stood c.in_ok-pass.ensures.fault.written in
    let lives = ap (λ (y : Machine _). y.ended) (sym s.living.along.machine) ∙ sym c.ended.ensures ∙ none_end c.ended.result c.is_some.result c.if-is_some.false c.is_some.ensures in
    let met = c.are_met.ensures.met _ _ v.states h.0 v.follows h.4.some (running-at-once _ deadline_of _ c.args.until v.states _ m _ _ _ _ s h.0 h.3) lives (sym same ∙ next.along.machine) next.along.lines c.in_ok-pass.ensures.fault.written in
    let here = ap (λ (k : Stopping _). stops_behind (pair.ghosts g.row.X watchdog_type.the_row g.X.Extra pair.no_dict watchdog.ghosts pair.no_dict).further k false (v.states + h.0) c.args.machine.now.machine) (sym v.stops) ∙ sym met.0 ∙ c.if-are_met.true in
    let over = running-stop _ deadline_of _ c.args.until v.states _ m _ _ _ _ s h.0 (omega (arith, h.1, le)) h.4.some free here in
    let ends = living-over _ deadline_of _ _ _ c.args.begun.now (v.states + h.0) _ _ _ next (inr over) in
    living-lived _ deadline_of _ _ _ c.args.begun.now (v.states + h.0) _ _ _ next false ends c.requires.ran (λ e. absurd cc)

pub returns-then-are_met-clause-time : goal.returns-then-are_met-clause-time
returns-then-are_met-clause-time g c =
    let le = stop-within c.deadline_in-deadline.result c.now-now.result c.args.until c.span_end-stop.result c.span_end-stop.ensures in
    let same = ap (λ (y : Machine _). y.time) c.are_met.ensures.same in
    omega (arith, le, c.pass.ensures.within, same)

pub loop-machine-preserved : goal.loop-machine-preserved
loop-machine-preserved g c =
    let v = c.loop-machine.invariant in
    let s = v.running in
    let m = c.loop-machine.machine.machine in
    let h = c.in_ok-pass.ensures.passed in
    let feeds = pair-feeds _ g.X.Extra.further.readable g.X.Extra.further.writable (λ t l e d. refl) (λ t d. refl) (λ w s t d. refl) (λ w s v t d. refl) in
    let le = stop-within c.deadline_in-deadline.result c.now-now.result c.args.until c.span_end-stop.result c.span_end-stop.ensures in
    let free = subst (λ (k : Stopping _). IsClear (pair.ghosts g.row.X watchdog_type.the_row g.X.Extra pair.no_dict watchdog.ghosts pair.no_dict).further k h.0 m) v.stops h.2 in
    let clear = clear-span _ deadline_of m c.deadline_in-deadline.result c.now-now.result c.args.until c.span_end-stop.result h.0 s.living.in_time c.span_end-stop.ensures c.now-now.ensures c.deadline_in-deadline.ensures h.1 in
    let few = running-part _ deadline_of _ c.args.until v.states _ m _ _ _ _ s h.0 (omega (arith, h.1, le)) h.4.some free in
    let same = c.are_met.ensures.same in
    let stood : Stood (pair.ghosts g.row.X watchdog_type.the_row g.X.Extra pair.no_dict watchdog.ghosts pair.no_dict).further h.0 m c.are_met.new.machine.machine = record { machine = same ∙ h.7.machine; time = ap (λ (y : Machine _). y.time) same ∙ h.7.time } in
    let next = living-next _ deadline_of feeds _ _ _ _ v.states h.0 _ _ _ s.living few clear _ _ h.4 _ stood c.in_ok-pass.ensures.fault.written in
    let lives = ap (λ (y : Machine _). y.ended) (sym s.living.along.machine) ∙ sym c.ended.ensures ∙ none_end c.ended.result c.is_some.result c.if-is_some.false c.is_some.ensures in
    let met = c.are_met.ensures.met _ _ v.states h.0 v.follows h.4.some (running-at-once _ deadline_of _ c.args.until v.states _ m _ _ _ _ s h.0 h.3) lives (sym same ∙ next.along.machine) next.along.lines c.in_ok-pass.ensures.fault.written in
    let none = ap (λ (k : Stopping _). stops_behind (pair.ghosts g.row.X watchdog_type.the_row g.X.Extra pair.no_dict watchdog.ghosts pair.no_dict).further k false (v.states + h.0) c.args.machine.now.machine) (sym v.stops) ∙ sym met.0 ∙ c.if-are_met.false in
    record {
      states = v.states + h.0;
      running = running-next _ deadline_of _ c.args.until v.states _ m _ _ _ _ s h.0 (omega (arith, h.1, le)) h.4.some free feeds clear _ _ _ h.4 stood c.in_ok-pass.ensures.fault.written none;
      follows = met.1 c.if-are_met.false;
      stops = c.are_met.ensures.stays.0 ∙ v.stops;
      settings = c.are_met.ensures.stays.2 ∙ v.settings;
    }

-- ---- the state has come

pub returns-clause-lines : goal.returns-clause-lines
returns-clause-lines g c =
    let v = c.loop-machine.invariant in
    let s = v.running in
    let over = running-over _ deadline_of _ c.args.until v.states _ _ _ _ _ _ s (omega (arith, c.loop-machine-test.false, c.now.ensures)) in
    let ends = living-over _ deadline_of _ _ _ c.args.begun.now v.states _ _ _ s.living (inr over) in
    living-lines _ deadline_of _ _ _ c.args.begun.now v.states _ _ _ s.living false ends

pub returns-clause-counts : goal.returns-clause-counts
returns-clause-counts g c =
    let v = c.loop-machine.invariant in
    let s = v.running in
    let over = running-over _ deadline_of _ c.args.until v.states _ _ _ _ _ _ s (omega (arith, c.loop-machine-test.false, c.now.ensures)) in
    let ends = living-over _ deadline_of _ _ _ c.args.begun.now v.states _ _ _ s.living (inr over) in
    living-counts _ deadline_of _ _ _ c.args.begun.now v.states _ _ _ s.living false ends

pub returns-clause-lived : goal.returns-clause-lived
returns-clause-lived g c =
    let v = c.loop-machine.invariant in
    let s = v.running in
    let over = running-over _ deadline_of _ c.args.until v.states _ _ _ _ _ _ s (omega (arith, c.loop-machine-test.false, c.now.ensures)) in
    let ends = living-over _ deadline_of _ _ _ c.args.begun.now v.states _ _ _ s.living (inr over) in
    living-lived _ deadline_of _ _ _ c.args.begun.now v.states _ _ _ s.living false ends c.requires.ran (λ e. absurd cc)

pub returns-clause-time : goal.returns-clause-time
returns-clause-time g c = c.loop-machine.invariant.running.time

-- ---- how far it was followed

pub returns-then-is_some-clause-followed : goal.returns-then-is_some-clause-followed
returns-then-is_some-clause-followed g c =
    let v = c.loop-machine.invariant in
    followed-up _ _ v.states _ c.args.machine.now.machine (omega (arith, v.running.living.time)) v.follows

pub returns-then-has_come-clause-followed : goal.returns-then-has_come-clause-followed
returns-then-has_come-clause-followed g c =
    let v = c.loop-machine.invariant in
    followed-up _ _ v.states _ c.args.machine.now.machine (omega (arith, v.running.living.time)) v.follows

pub returns-then-are_met-clause-followed : goal.returns-then-are_met-clause-followed
returns-then-are_met-clause-followed g c =
    let v = c.loop-machine.invariant in
    let s = v.running in
    let m = c.loop-machine.machine.machine in
    let h = c.in_ok-pass.ensures.passed in
    let feeds = pair-feeds _ g.X.Extra.further.readable g.X.Extra.further.writable (λ t l e d. refl) (λ t d. refl) (λ w s t d. refl) (λ w s v t d. refl) in
    let le = stop-within c.deadline_in-deadline.result c.now-now.result c.args.until c.span_end-stop.result c.span_end-stop.ensures in
    let free = subst (λ (k : Stopping _). IsClear (pair.ghosts g.row.X watchdog_type.the_row g.X.Extra pair.no_dict watchdog.ghosts pair.no_dict).further k h.0 m) v.stops h.2 in
    let clear = clear-span _ deadline_of m c.deadline_in-deadline.result c.now-now.result c.args.until c.span_end-stop.result h.0 s.living.in_time c.span_end-stop.ensures c.now-now.ensures c.deadline_in-deadline.ensures h.1 in
    let few = running-part _ deadline_of _ c.args.until v.states _ m _ _ _ _ s h.0 (omega (arith, h.1, le)) h.4.some free in
    let same = c.are_met.ensures.same in
    let stood : Stood (pair.ghosts g.row.X watchdog_type.the_row g.X.Extra pair.no_dict watchdog.ghosts pair.no_dict).further h.0 m c.are_met.new.machine.machine = record { machine = same ∙ h.7.machine; time = ap (λ (y : Machine _). y.time) same ∙ h.7.time } in
    let next = living-next _ deadline_of feeds _ _ _ _ v.states h.0 _ _ _ s.living few clear _ _ h.4 _ stood c.in_ok-pass.ensures.fault.written in
    let lives = ap (λ (y : Machine _). y.ended) (sym s.living.along.machine) ∙ sym c.ended.ensures ∙ none_end c.ended.result c.is_some.result c.if-is_some.false c.is_some.ensures in
    let met = c.are_met.ensures.met _ _ v.states h.0 v.follows h.4.some (running-at-once _ deadline_of _ c.args.until v.states _ m _ _ _ _ s h.0 h.3) lives (sym same ∙ next.along.machine) next.along.lines c.in_ok-pass.ensures.fault.written in
    let states : c.are_met.new.machine.machine.time - c.args.machine.now.machine.time ≡ v.states + h.0 = omega (arith, next.time) in
    followed-so _ _ v.states h.0 _ c.args.machine.now.machine states (running-at-once _ deadline_of _ c.args.until v.states _ m _ _ _ _ s h.0 h.3) lives (met.2 c.if-are_met.true)

pub returns-clause-followed : goal.returns-clause-followed
returns-clause-followed g c =
    let v = c.loop-machine.invariant in
    followed-up _ _ v.states _ c.args.machine.now.machine (omega (arith, v.running.living.time)) v.follows

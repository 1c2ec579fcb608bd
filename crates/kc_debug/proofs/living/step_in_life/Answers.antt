use Rattle.std.proofs.Common.{nat_lt, inl, inr, refl, sym, ap, subst, ◌∙◌, arith, false}
use Rattle.kc_extra.specs.contracts.pair_unit.PairExtra.TheImpl as pair
use Rattle.kc_machine_spec.specs.declared.doing.UnderWay.{UnderWay}
use Rattle.kc_machine.specs.Board.{Whole}
use Rattle.kc_cycles.specs.contracts.watchdog.Watchdog as watchdog_type
use Rattle.kc_cycles.specs.contracts.watchdog.WatchdogExtra.TheImpl as watchdog
use Rattle.kc_cycles.specs.Life.{is_at}
use Rattle.kc_cycles.specs.Making.{deadline_of}
use Rattle.kc_cycles.proofs.Fitted.{pair-feeds}
use Rattle.kc_debug.specs.Debugging.{HasLived}
use Rattle.kc_debug.specs.Stops.{states_of_activities}
use Rattle.kc_debug.proofs.Passing.{some_end, none_end, along-kept, activity-reported}
use Rattle.kc_debug.proofs.Lived.{ahead, late-run, room-time, room-some, room-whole, living-lines, living-over, living-lived, living-cut, stepping-first, stepping-late, stepping-next, stepping-smaller, stepping-few, stepping-over}
use Rattle.kc_debug.proofs.living.step_in_life.Goals as goal

pub loop-left-init : goal.loop-left-init
loop-left-init g c = stepping-first _ deadline_of c.args.count _ _ c.args.begun.now c.requires.kept c.requires.in_time c.requires.unbroken

pub pass_in_life-requires-clause-kept : goal.pass_in_life-requires-clause-kept
pass_in_life-requires-clause-kept g c = along-kept _ _ _ _ _ _ _ _ c.loop-left.invariant.living.along

pub pass_in_life-requires-clause-lives : goal.pass_in_life-requires-clause-lives
pass_in_life-requires-clause-lives g c = sym c.ended.ensures ∙ none_end c.ended.result c.is_some.result c.if-is_some.false c.is_some.ensures

pub pass_in_life-requires-clause-ahead : goal.pass_in_life-requires-clause-ahead
pass_in_life-requires-clause-ahead g c =
    let m = c.loop-left.machine.machine in
    ahead (deadline_of m.board.units.further) m.time c.loop-left.invariant.living.in_time
    (ap (λ o. is_at o m.time) (sym c.deadline_in.ensures) ∙ ap (is_at c.deadline_in.result) (sym c.now.ensures) ∙ sym c.has_come.ensures ∙ c.if-has_come.false)

pub pass_in_life-requires-clause-room : goal.pass_in_life-requires-clause-room
pass_in_life-requires-clause-room g c =
    let some = room-some _ _ _ _ _ c.loop-left.invariant.room (omega (arith, c.loop-left-test.true)) in
    omega (arith, some, c.requires.room)

pub pass_in_life-requires-clause-unbroken : goal.pass_in_life-requires-clause-unbroken
pass_in_life-requires-clause-unbroken g c = c.loop-left.invariant.living.unbroken

-- ---- an end of the life

pub returns-then-is_some-clause-lines : goal.returns-then-is_some-clause-lines
returns-then-is_some-clause-lines g c =
    let s = c.loop-left.invariant in
    let how = some_end c.ended.result c.is_some.result c.if-is_some.true c.is_some.ensures in
    let ends = living-over _ deadline_of _ _ _ c.args.begun.now s.states _ _ _ s.living (inl (how.0, sym c.ended.ensures ∙ how.1)) in
    living-lines _ deadline_of _ _ _ c.args.begun.now s.states _ _ _ s.living false ends

pub returns-then-is_some-clause-lived : goal.returns-then-is_some-clause-lived
returns-then-is_some-clause-lived g c =
    let s = c.loop-left.invariant in
    let how = some_end c.ended.result c.is_some.result c.if-is_some.true c.is_some.ensures in
    let ends = living-over _ deadline_of _ _ _ c.args.begun.now s.states _ _ _ s.living (inl (how.0, sym c.ended.ensures ∙ how.1)) in
    living-lived _ deadline_of _ _ _ c.args.begun.now s.states _ _ _ s.living false ends c.requires.ran (λ e. absurd cc)

pub returns-then-is_some-clause-time : goal.returns-then-is_some-clause-time
returns-then-is_some-clause-time g c = room-time _ _ _ _ _ c.loop-left.invariant.room

-- ---- its deadline

pub returns-then-has_come-clause-lines : goal.returns-then-has_come-clause-lines
returns-then-has_come-clause-lines g c =
    let s = c.loop-left.invariant in
    let m = c.loop-left.machine.machine in
    let due = ap (λ o. is_at o m.time) (sym c.deadline_in.ensures) ∙ ap (is_at c.deadline_in.result) (sym c.now.ensures) ∙ sym c.has_come.ensures ∙ c.if-has_come.true in
    let lives = sym c.ended.ensures ∙ none_end c.ended.result c.is_some.result c.if-is_some.false c.is_some.ensures in
    let ends = stepping-late _ deadline_of _ _ _ c.args.begun.now c.loop-left.left m _ _ s (nat_lt 0 c.current.result.left) c.current.result.left (omega (arith, c.loop-left-test.true)) lives due (ap (λ (u : UnderWay). u.left) c.current.ensures.activity) refl in
    living-lines _ deadline_of _ _ _ c.args.begun.now s.states _ _ _ s.living _ ends

pub returns-then-has_come-clause-lived : goal.returns-then-has_come-clause-lived
returns-then-has_come-clause-lived g c =
    let f = (pair.ghosts g.row.X watchdog_type.the_row g.X.Extra pair.no_dict watchdog.ghosts pair.no_dict).further in
    let s = c.loop-left.invariant in
    let m = c.loop-left.machine.machine in
    let m0 = c.args.machine.now.machine in
    let due = ap (λ o. is_at o m.time) (sym c.deadline_in.ensures) ∙ ap (is_at c.deadline_in.result) (sym c.now.ensures) ∙ sym c.has_come.ensures ∙ c.if-has_come.true in
    let lives = sym c.ended.ensures ∙ none_end c.ended.result c.is_some.result c.if-is_some.false c.is_some.ensures in
    let ends = stepping-late _ deadline_of _ _ _ c.args.begun.now c.loop-left.left m _ _ s (nat_lt 0 c.current.result.left) c.current.result.left (omega (arith, c.loop-left-test.true)) lives due (ap (λ (u : UnderWay). u.left) c.current.ensures.activity) refl in
    let lived = living-lived _ deadline_of _ _ _ c.args.begun.now s.states _ _ _ s.living (nat_lt 0 c.current.result.left) ends c.requires.ran (λ e. late-run (deadline_of m.board.units.further) m.time s.living.in_time due) in
    subst (λ (w : Whole _). HasLived f deadline_of (states_of_activities f c.args.count m0) m0 c.args.begun.now (nat_lt 0 c.current.result.left) w.machine c.loop-left.begun) (sym c.current.ensures.same) lived

pub returns-then-has_come-clause-time : goal.returns-then-has_come-clause-time
returns-then-has_come-clause-time g c =
    let time = room-time _ _ _ _ _ c.loop-left.invariant.room in
    let same = ap (λ (w : Whole _). w.machine.time) c.current.ensures.same in
    omega (arith, time, same)

-- ---- some states more

pub returns-in_err-passed-clause-lines : goal.returns-in_err-passed-clause-lines
returns-in_err-passed-clause-lines g c =
    let s = c.loop-left.invariant in
    let h = c.in_err-passed.ensures.passes in
    let lives = sym c.ended.ensures ∙ none_end c.ended.result c.is_some.result c.if-is_some.false c.is_some.ensures in
    let feeds = pair-feeds _ g.X.Extra.further.readable g.X.Extra.further.writable (λ t l e d. refl) (λ t d. refl) (λ w s t d. refl) (λ w s v t d. refl) in
    let few = stepping-few _ deadline_of _ _ _ _ c.loop-left.left _ _ _ s h.states (omega (arith, c.loop-left-test.true)) h.few in
    living-cut _ deadline_of feeds _ _ _ _ s.states h.states _ _ _ s.living few h.clear _ _ (activity-reported _ h.states _ _ _ _ _ _ lives h.passed) c.in_err-passed.ensures.fault.failed

pub returns-in_err-passed-clause-time : goal.returns-in_err-passed-clause-time
returns-in_err-passed-clause-time g c =
    let h = c.in_err-passed.ensures.passes in
    let whole = room-whole _ _ _ _ _ c.loop-left.invariant.room (omega (arith, c.loop-left-test.true)) h.short in
    omega (arith, whole, h.few, h.passed.time)

pub loop-left-preserved : goal.loop-left-preserved
loop-left-preserved g c =
    let s = c.loop-left.invariant in
    let lives = sym c.ended.ensures ∙ none_end c.ended.result c.is_some.result c.if-is_some.false c.is_some.ensures in
    let feeds = pair-feeds _ g.X.Extra.further.readable g.X.Extra.further.writable (λ t l e d. refl) (λ t d. refl) (λ w s t d. refl) (λ w s v t d. refl) in
    stepping-next _ deadline_of feeds _ _ _ _ c.loop-left.left _ _ _ s (omega (arith, c.loop-left-test.true)) lives _ _ _ _ c.in_ok-passed.ensures.passes c.in_ok-passed.ensures.fault.written

pub loop-left-smaller : goal.loop-left-smaller
loop-left-smaller g c =
    let s = c.loop-left.invariant in
    let lives = sym c.ended.ensures ∙ none_end c.ended.result c.is_some.result c.if-is_some.false c.is_some.ensures in
    let feeds = pair-feeds _ g.X.Extra.further.readable g.X.Extra.further.writable (λ t l e d. refl) (λ t d. refl) (λ w s t d. refl) (λ w s v t d. refl) in
    stepping-smaller _ deadline_of feeds _ _ _ _ c.loop-left.left _ _ _ s (omega (arith, c.loop-left-test.true)) lives _ _ _ _ c.in_ok-passed.ensures.passes

-- ---- all have passed

pub returns-clause-lines : goal.returns-clause-lines
returns-clause-lines g c =
    let s = c.loop-left.invariant in
    let none = stepping-over _ deadline_of _ _ _ _ c.loop-left.left _ _ _ s (omega (arith, c.loop-left-test.false)) in
    let ends = living-over _ deadline_of _ _ _ c.args.begun.now s.states _ _ _ s.living (inr none) in
    living-lines _ deadline_of _ _ _ c.args.begun.now s.states _ _ _ s.living false ends

pub returns-clause-lived : goal.returns-clause-lived
returns-clause-lived g c =
    let s = c.loop-left.invariant in
    let none = stepping-over _ deadline_of _ _ _ _ c.loop-left.left _ _ _ s (omega (arith, c.loop-left-test.false)) in
    let ends = living-over _ deadline_of _ _ _ c.args.begun.now s.states _ _ _ s.living (inr none) in
    living-lived _ deadline_of _ _ _ c.args.begun.now s.states _ _ _ s.living false ends c.requires.ran (λ e. absurd cc)

pub returns-clause-time : goal.returns-clause-time
returns-clause-time g c = room-time _ _ _ _ _ c.loop-left.invariant.room

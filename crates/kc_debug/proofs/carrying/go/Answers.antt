use Rattle.std.proofs.Common.{◌≡◌, ℕ, ◌+◌, ◌-◌, ◌≤◌, sym, ap, subst, ◌∙◌, true, false, arith}
use Rattle.kc_trace.specs.Trace.{out_of}
use Rattle.kc_machine_spec.specs.Machine.{Machine}
use Rattle.kc_debug.specs.Passing.{IsClear, Stood}
use Rattle.kc_debug.specs.Stops.{Stopping, states_at_once, stops_behind}
use Rattle.kc_machine_spec.proofs.Calls.{always-failed}
use Rattle.kc_debug.proofs.Onward.{followed-so, followed-up, onward-first, onward-over, onward-at-once, onward-part, onward-stop, onward-next}
use Rattle.kc_debug.proofs.Passing.{some_end, none_end, along-kept, along-lines, along-next, along-over, along-cut, along-done, looking-first, looking-add, looking-last, looking-within, fails-later}
use Rattle.kc_debug.proofs.carrying.go.Goals as goal

pub loop-machine-init : goal.loop-machine-init
loop-machine-init g c = record {
  states = 0;
  on = onward-first g.X.Extra.further (g.T.Stops.stopping c.args.stops.now) c.args.until c.args.machine.now.machine c.begin.new.machine.machine _ c.args.begun.now c.begin.ensures.same c.requires.kept;
  spent = looking-first g.X.Extra.further _ c.args.machine.now c.args.steps.now c.begin.new.machine c.begin.new.steps c.begin.ensures.moves c.begin.ensures.steps;
  follows = c.begin.ensures.follows;
  stops = c.begin.ensures.stays.0;
  settings = c.begin.ensures.stays.2;
  looks = c.begin.ensures.stays.1;
  unbroken = c.requires.unbroken;
}

pub pass-requires-clause-kept : goal.pass-requires-clause-kept
pass-requires-clause-kept g c = along-kept g.X.Extra.further _ _ _ _ _ _ _ c.loop-machine.invariant.on.along

pub pass-requires-clause-lives : goal.pass-requires-clause-lives
pass-requires-clause-lives g c = sym c.ended.ensures ∙ none_end c.ended.result c.is_some.result c.if-is_some.false c.is_some.ensures

pub returns-then-is_some-clause-lines : goal.returns-then-is_some-clause-lines
returns-then-is_some-clause-lines g c =
    let v = c.loop-machine.invariant in
    let i = v.on in
    let how = some_end c.ended.result c.is_some.result c.if-is_some.true c.is_some.ensures in
    (along-done g.X.Extra.further _ _ _ _ _ _ _ _ (along-over g.X.Extra.further _ _ _ v.states _ _ _ _ how.0 i.along (sym c.ended.ensures ∙ how.1)) i.rest).lines

pub returns-then-is_some-clause-gone : goal.returns-then-is_some-clause-gone
returns-then-is_some-clause-gone g c =
    let v = c.loop-machine.invariant in
    let i = v.on in
    let how = some_end c.ended.result c.is_some.result c.if-is_some.true c.is_some.ensures in
    let done = along-done g.X.Extra.further _ _ _ _ _ _ _ _ (along-over g.X.Extra.further _ _ _ v.states _ _ _ _ how.0 i.along (sym c.ended.ensures ∙ how.1)) i.rest in
    record { machine = done.machine; begun = done.begun }

pub returns-then-is_some-clause-spent : goal.returns-then-is_some-clause-spent
returns-then-is_some-clause-spent g c =
    let i = c.loop-machine.invariant in
    looking-within g.X.Extra.further _ i.states _ _ _ _ _ (omega (arith, i.on.rest)) i.spent

pub returns-in_err-pass-clause-lines : goal.returns-in_err-pass-clause-lines
returns-in_err-pass-clause-lines g c =
    let f = g.X.Extra.further in
    let v = c.loop-machine.invariant in
    let i = v.on in
    let m = c.loop-machine.machine.machine in
    let passed = c.pass.ensures.passed in
    let rest = onward-part f _ c.args.until v.states _ m _ _ _ _ i passed.0 passed.1 passed.4.some (subst (λ (s : Stopping _). IsClear f s passed.0 m) v.stops passed.2) in
    along-cut f _ _ (v.states + passed.0) rest.0 _ _ (along-lines f _ _ _ v.states passed.0 m _ _ _ i.along passed.4.lines) c.in_err-pass.ensures.fault.failed rest.1

pub returns-in_err-pass-clause-fails : goal.returns-in_err-pass-clause-fails
returns-in_err-pass-clause-fails g c =
    let f = g.X.Extra.further in
    let v = c.loop-machine.invariant in
    let i = v.on in
    let m = c.loop-machine.machine.machine in
    let passed = c.in_err-pass.ensures.passed in
    let rest = onward-part f _ c.args.until v.states _ m _ _ _ _ i passed.0 passed.1 passed.4.some (subst (λ (s : Stopping _). IsClear f s passed.0 m) v.stops passed.2) in
    always-failed _ (fails-later f (states_at_once c.args.until) v.states passed.0 _ _ _ _ _ _ _ i.along.machine i.along.lines passed.5 (omega (arith, rest.1)))

pub returns-in_err-pass-clause-spent : goal.returns-in_err-pass-clause-spent
returns-in_err-pass-clause-spent g c =
    let f = g.X.Extra.further in
    let i = c.loop-machine.invariant in
    let m = c.loop-machine.machine.machine in
    let passed = c.pass.ensures.passed in
    let rest = onward-part f _ c.args.until i.states _ m _ _ _ _ i.on passed.0 passed.1 passed.4.some (subst (λ (s : Stopping _). IsClear f s passed.0 m) i.stops passed.2) in
    looking-within f _ (i.states + passed.0) _ _ _ _ _ (omega (arith, rest.1)) (looking-last f _ i.states passed.0 _ _ _ _ _ _ i.on.along.machine passed.4.some i.spent passed.6)

pub returns-then-are_met-clause-lines : goal.returns-then-are_met-clause-lines
returns-then-are_met-clause-lines g c =
    let f = g.X.Extra.further in
    let i = c.loop-machine.invariant in
    let m = c.loop-machine.machine.machine in
    let x = c.are_met.new.machine.machine in
    let passed = c.in_ok-pass.ensures.passed in
    let free = subst (λ (s : Stopping _). IsClear f s passed.0 m) i.stops passed.2 in
    let same = c.are_met.ensures.same in
    let stood : Stood f passed.0 m x = record { machine = same ∙ passed.7.machine; time = ap (λ (y : Machine _). y.time) same ∙ passed.7.time } in
    let next = along-next f _ _ _ i.states passed.0 m _ _ x _ _ i.on.along passed.4 stood in
    let lives = ap (λ (y : Machine _). y.ended) (sym i.on.along.machine) ∙ sym c.ended.ensures ∙ none_end c.ended.result c.is_some.result c.if-is_some.false c.is_some.ensures in
    let met = c.are_met.ensures.met _ _ i.states passed.0 i.follows passed.4.some (onward-at-once f _ c.args.until i.states _ m _ _ _ _ i.on passed.0 passed.3) lives (sym same ∙ next.machine) next.lines c.in_ok-pass.ensures.fault.written in
    let here = ap (λ (s : Stopping _). stops_behind f s false (i.states + passed.0) c.args.machine.now.machine) (sym i.stops) ∙ sym met.0 ∙ c.if-are_met.true in
    let all = onward-stop f _ c.args.until i.states _ m _ _ _ _ i.on passed.0 passed.1 passed.4.some free here in
    (along-done f _ _ _ (i.states + passed.0) _ _ _ _ next all).lines

pub returns-then-are_met-clause-gone : goal.returns-then-are_met-clause-gone
returns-then-are_met-clause-gone g c =
    let f = g.X.Extra.further in
    let i = c.loop-machine.invariant in
    let m = c.loop-machine.machine.machine in
    let x = c.are_met.new.machine.machine in
    let passed = c.in_ok-pass.ensures.passed in
    let free = subst (λ (s : Stopping _). IsClear f s passed.0 m) i.stops passed.2 in
    let same = c.are_met.ensures.same in
    let stood : Stood f passed.0 m x = record { machine = same ∙ passed.7.machine; time = ap (λ (y : Machine _). y.time) same ∙ passed.7.time } in
    let next = along-next f _ _ _ i.states passed.0 m _ _ x _ _ i.on.along passed.4 stood in
    let lives = ap (λ (y : Machine _). y.ended) (sym i.on.along.machine) ∙ sym c.ended.ensures ∙ none_end c.ended.result c.is_some.result c.if-is_some.false c.is_some.ensures in
    let met = c.are_met.ensures.met _ _ i.states passed.0 i.follows passed.4.some (onward-at-once f _ c.args.until i.states _ m _ _ _ _ i.on passed.0 passed.3) lives (sym same ∙ next.machine) next.lines c.in_ok-pass.ensures.fault.written in
    let here = ap (λ (s : Stopping _). stops_behind f s false (i.states + passed.0) c.args.machine.now.machine) (sym i.stops) ∙ sym met.0 ∙ c.if-are_met.true in
    let all = onward-stop f _ c.args.until i.states _ m _ _ _ _ i.on passed.0 passed.1 passed.4.some free here in
    let done = along-done f _ _ _ (i.states + passed.0) _ _ _ _ next all in
    record { machine = done.machine; begun = done.begun }

pub returns-then-are_met-clause-spent : goal.returns-then-are_met-clause-spent
returns-then-are_met-clause-spent g c =
    let f = g.X.Extra.further in
    let i = c.loop-machine.invariant in
    let m = c.loop-machine.machine.machine in
    let passed = c.in_ok-pass.ensures.passed in
    let rest = onward-part f _ c.args.until i.states _ m _ _ _ _ i.on passed.0 passed.1 passed.4.some (subst (λ (s : Stopping _). IsClear f s passed.0 m) i.stops passed.2) in
    let moves = subst (λ n. c.are_met.new.machine.moves ≤ c.pass.new.machine.moves + n) i.looks c.are_met.ensures.moves in
    looking-within f _ (i.states + passed.0) _ _ _ _ _ (omega (arith, rest.1)) (looking-add f _ i.states passed.0 _ _ _ _ _ _ _ _ i.on.along.machine passed.4.some i.spent passed.6 moves c.are_met.ensures.steps)

pub loop-machine-preserved : goal.loop-machine-preserved
loop-machine-preserved g c =
    let f = g.X.Extra.further in
    let i = c.loop-machine.invariant in
    let m = c.loop-machine.machine.machine in
    let x = c.are_met.new.machine.machine in
    let passed = c.in_ok-pass.ensures.passed in
    let free = subst (λ (s : Stopping _). IsClear f s passed.0 m) i.stops passed.2 in
    let same = c.are_met.ensures.same in
    let stood : Stood f passed.0 m x = record { machine = same ∙ passed.7.machine; time = ap (λ (y : Machine _). y.time) same ∙ passed.7.time } in
    let next = along-next f _ _ _ i.states passed.0 m _ _ x _ _ i.on.along passed.4 stood in
    let lives = ap (λ (y : Machine _). y.ended) (sym i.on.along.machine) ∙ sym c.ended.ensures ∙ none_end c.ended.result c.is_some.result c.if-is_some.false c.is_some.ensures in
    let met = c.are_met.ensures.met _ _ i.states passed.0 i.follows passed.4.some (onward-at-once f _ c.args.until i.states _ m _ _ _ _ i.on passed.0 passed.3) lives (sym same ∙ next.machine) next.lines c.in_ok-pass.ensures.fault.written in
    let none = ap (λ (s : Stopping _). stops_behind f s false (i.states + passed.0) c.args.machine.now.machine) (sym i.stops) ∙ sym met.0 ∙ c.if-are_met.false in
    let moves = subst (λ n. c.are_met.new.machine.moves ≤ c.pass.new.machine.moves + n) i.looks c.are_met.ensures.moves in
    record {
      states = i.states + passed.0;
      on = onward-next f _ c.args.until i.states _ m _ _ _ _ i.on passed.0 passed.1 passed.4.some free x _ _ passed.4 stood none;
      spent = looking-add f _ i.states passed.0 _ _ _ _ _ _ _ _ i.on.along.machine passed.4.some i.spent passed.6 moves c.are_met.ensures.steps;
      follows = met.1 c.if-are_met.false;
      stops = c.are_met.ensures.stays.0 ∙ i.stops;
      settings = c.are_met.ensures.stays.2 ∙ i.settings;
      looks = c.are_met.ensures.stays.1 ∙ i.looks;
      unbroken = c.in_ok-pass.ensures.fault.written;
    }

pub returns-clause-lines : goal.returns-clause-lines
returns-clause-lines g c =
    let v = c.loop-machine.invariant in
    let i = v.on in
    let over = onward-over g.X.Extra.further _ c.args.until v.states _ _ _ _ _ _ i (omega (arith, c.loop-machine-test.false, c.now.ensures)) in
    (along-done g.X.Extra.further _ _ _ v.states _ _ _ _ i.along over).lines

pub returns-clause-gone : goal.returns-clause-gone
returns-clause-gone g c =
    let v = c.loop-machine.invariant in
    let i = v.on in
    let over = onward-over g.X.Extra.further _ c.args.until v.states _ _ _ _ _ _ i (omega (arith, c.loop-machine-test.false, c.now.ensures)) in
    let done = along-done g.X.Extra.further _ _ _ v.states _ _ _ _ i.along over in
    record { machine = done.machine; begun = done.begun }

pub returns-clause-spent : goal.returns-clause-spent
returns-clause-spent g c =
    let i = c.loop-machine.invariant in
    looking-within g.X.Extra.further _ i.states _ _ _ _ _ (omega (arith, i.on.rest)) i.spent

pub returns-then-is_some-clause-followed : goal.returns-then-is_some-clause-followed
returns-then-is_some-clause-followed g c =
    let i = c.loop-machine.invariant in
    followed-up g.X.Extra.further _ i.states _ c.args.machine.now.machine (omega (arith, i.on.span)) i.follows

pub returns-then-are_met-clause-followed : goal.returns-then-are_met-clause-followed
returns-then-are_met-clause-followed g c =
    let f = g.X.Extra.further in
    let i = c.loop-machine.invariant in
    let m = c.loop-machine.machine.machine in
    let x = c.are_met.new.machine.machine in
    let passed = c.in_ok-pass.ensures.passed in
    let free = subst (λ (s : Stopping _). IsClear f s passed.0 m) i.stops passed.2 in
    let same = c.are_met.ensures.same in
    let stood : Stood f passed.0 m x = record { machine = same ∙ passed.7.machine; time = ap (λ (y : Machine _). y.time) same ∙ passed.7.time } in
    let next = along-next f _ _ _ i.states passed.0 m _ _ x _ _ i.on.along passed.4 stood in
    let lives = ap (λ (y : Machine _). y.ended) (sym i.on.along.machine) ∙ sym c.ended.ensures ∙ none_end c.ended.result c.is_some.result c.if-is_some.false c.is_some.ensures in
    let met = c.are_met.ensures.met _ _ i.states passed.0 i.follows passed.4.some (onward-at-once f _ c.args.until i.states _ m _ _ _ _ i.on passed.0 passed.3) lives (sym same ∙ next.machine) next.lines c.in_ok-pass.ensures.fault.written in
    let states : x.time - c.args.machine.now.machine.time ≡ i.states + passed.0 = omega (arith, i.on.span, stood.time) in
    followed-so f _ i.states passed.0 _ c.args.machine.now.machine states (onward-at-once f _ c.args.until i.states _ m _ _ _ _ i.on passed.0 passed.3) lives (met.2 c.if-are_met.true)

pub returns-clause-followed : goal.returns-clause-followed
returns-clause-followed g c =
    let i = c.loop-machine.invariant in
    followed-up g.X.Extra.further _ i.states _ c.args.machine.now.machine (omega (arith, i.on.span)) i.follows

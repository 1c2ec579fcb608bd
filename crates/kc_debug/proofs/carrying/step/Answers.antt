use Rattle.std.proofs.Common.{◌≡◌, ℕ, ◌+◌, sym, ap, ◌∙◌, arith}
use Rattle.kc_debug.specs.Stops.{activity_states, states_of_activities}
use Rattle.kc_debug.proofs.Begins.{states-none}
use Rattle.kc_machine_spec.proofs.Calls.{always-failed}
use Rattle.kc_debug.proofs.Passing.{some_end, none_end, along-kept, along-first, along-lines, along-next, along-over, along-cut, along-done, spends-none, spends-add, spends-within, fails-later}
use Rattle.kc_debug.proofs.carrying.step.Goals as goal

pub loop-left-init : goal.loop-left-init
loop-left-init g c = record {
  states = 0;
  along = along-first g.X.Extra.further _ _ _ c.requires.kept;
  spent = spends-none g.X.Extra.further _ _;
  rest = let e : (n : ℕ) → n ≡ 0 + n = λ n. omega arith in e _;
  time = omega arith;
  few = omega arith;
  unbroken = c.requires.unbroken;
}

pub pass_some-requires-clause-kept : goal.pass_some-requires-clause-kept
pass_some-requires-clause-kept g c = along-kept g.X.Extra.further _ _ _ _ _ _ _ c.loop-left.invariant.along

pub pass_some-requires-clause-lives : goal.pass_some-requires-clause-lives
pass_some-requires-clause-lives g c = sym c.ended.ensures ∙ none_end c.ended.result c.is_some.result c.if-is_some.false c.is_some.ensures

pub returns-then-is_some-clause-lines : goal.returns-then-is_some-clause-lines
returns-then-is_some-clause-lines g c =
    let i = c.loop-left.invariant in
    let how = some_end c.ended.result c.is_some.result c.if-is_some.true c.is_some.ensures in
    (along-done g.X.Extra.further _ _ _ _ _ _ _ _ (along-over g.X.Extra.further _ _ _ i.states _ _ _ _ how.0 i.along (sym c.ended.ensures ∙ how.1)) i.rest).lines

pub returns-then-is_some-clause-gone : goal.returns-then-is_some-clause-gone
returns-then-is_some-clause-gone g c =
    let i = c.loop-left.invariant in
    let how = some_end c.ended.result c.is_some.result c.if-is_some.true c.is_some.ensures in
    let done = along-done g.X.Extra.further _ _ _ _ _ _ _ _ (along-over g.X.Extra.further _ _ _ i.states _ _ _ _ how.0 i.along (sym c.ended.ensures ∙ how.1)) i.rest in
    record { machine = done.machine; begun = done.begun }

pub returns-in_err-passed-clause-lines : goal.returns-in_err-passed-clause-lines
returns-in_err-passed-clause-lines g c =
    let f = g.X.Extra.further in
    let i = c.loop-left.invariant in
    let m = c.loop-left.machine.machine in
    let passed = c.pass_some.ensures.passed in
    along-cut f _ _ (i.states + passed.0) passed.1 _ _ (along-lines f _ _ _ i.states passed.0 m _ _ _ i.along passed.3.lines) c.in_err-passed.ensures.fault.failed (omega (arith, i.rest, passed.2))

pub loop-left-preserved : goal.loop-left-preserved
loop-left-preserved g c =
    let f = g.X.Extra.further in
    let i = c.loop-left.invariant in
    let m = c.loop-left.machine.machine in
    let x = c.pass_some.new.machine.machine in
    let passed = c.in_ok-passed.ensures.passed in
    let some = c.in_ok-passed.ensures.some in
    record {
      states = i.states + passed.0;
      along = along-next f _ _ _ i.states passed.0 m _ _ x _ _ i.along passed.3 passed.6.0;
      spent = spends-add f i.states passed.0 _ _ _ _ _ _ i.along.machine i.spent passed.5;
      rest = omega (arith, i.rest, passed.2, passed.6.1);
      time = omega (arith, i.time, some);
      few = omega (arith, i.few, some);
      unbroken = c.in_ok-passed.ensures.fault.written;
    }

pub returns-clause-lines : goal.returns-clause-lines
returns-clause-lines g c =
    let i = c.loop-left.invariant in
    let none : c.loop-left.left ≡ 0 = omega (arith, c.loop-left-test.false) in
    let over = ap (λ n. states_of_activities g.X.Extra.further n c.loop-left.machine.machine) none ∙ states-none g.X.Extra.further c.loop-left.machine.machine in
    (along-done g.X.Extra.further _ _ _ i.states _ _ _ _ i.along (omega (arith, i.rest, over))).lines

pub returns-clause-gone : goal.returns-clause-gone
returns-clause-gone g c =
    let i = c.loop-left.invariant in
    let none : c.loop-left.left ≡ 0 = omega (arith, c.loop-left-test.false) in
    let over = ap (λ n. states_of_activities g.X.Extra.further n c.loop-left.machine.machine) none ∙ states-none g.X.Extra.further c.loop-left.machine.machine in
    let done = along-done g.X.Extra.further _ _ _ i.states _ _ _ _ i.along (omega (arith, i.rest, over)) in
    record { machine = done.machine; begun = done.begun }

pub returns-then-is_some-clause-spent : goal.returns-then-is_some-clause-spent
returns-then-is_some-clause-spent g c =
    let i = c.loop-left.invariant in
    spends-within g.X.Extra.further i.states _ _ _ _ _ (omega (arith, i.rest)) i.spent

pub returns-clause-spent : goal.returns-clause-spent
returns-clause-spent g c =
    let i = c.loop-left.invariant in
    spends-within g.X.Extra.further i.states _ _ _ _ _ (omega (arith, i.rest)) i.spent

pub returns-in_err-passed-clause-fails : goal.returns-in_err-passed-clause-fails
returns-in_err-passed-clause-fails g c =
    let i = c.loop-left.invariant in
    let passed = c.in_err-passed.ensures.passed in
    always-failed _ (fails-later g.X.Extra.further activity_states i.states passed.0 _ _ _ _ _ _ _ i.along.machine i.along.lines passed.4 (omega (arith, i.rest, passed.2)))

pub returns-in_err-passed-clause-spent : goal.returns-in_err-passed-clause-spent
returns-in_err-passed-clause-spent g c =
    let f = g.X.Extra.further in
    let i = c.loop-left.invariant in
    let passed = c.pass_some.ensures.passed in
    spends-within f (i.states + passed.0) _ _ _ _ _ (omega (arith, i.rest, passed.2)) (spends-add f i.states passed.0 _ _ _ _ _ _ i.along.machine i.spent passed.5)

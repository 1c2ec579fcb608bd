-- A monitor over all moments of a life reports what its rule asks of them.
use Rattle.std.proofs.Common.{◌≡◌, ℕ, ◌+◌, ◌<◌, ◌≤◌, ◌^◌, Bool, true, false, ltb, eqb, ◌&&◌, List, [], ◌∷◌, Option, Some, None, refl, sym, ap, subst, ◌∙◌, inl, inr, arith}
use Rattle.std.specs.Prelude.{IfSome, is_none}
use Rattle.std.proofs.lemmas.Bool.{cases_Bool, cond-true, cond-false, ne_eqb}
use Rattle.kc_base.specs.declared.types.Level.{Level}
use Rattle.kc_trace.specs.declared.life.Signal.{Signal}
use Rattle.kc_rules.specs.declared.rule.Form.{Form}
use Rattle.kc_rules.specs.declared.rule.Form.TheVariants as forms
use Rattle.kc_rules.specs.declared.rule.Rule.{Rule}
use Rattle.kc_monitor_forms.specs.declared.tally.Tally.{Tally}
use Rattle.kc_monitor_forms.specs.declared.tally.Found.{Found}
use Rattle.kc_monitor_forms.specs.declared.after.After.{After}
use Rattle.kc_monitor_forms.specs.Tallies.{with_all}
use Rattle.kc_monitor_forms.specs.Apart.{Times}
use Rattle.kc_monitor_forms.specs.Machines.{IsWaiting, IsRisingFrom, IsUpTo, IsLate, IsReported, late_last}
use Rattle.kc_monitor_forms.proofs.TallyLemmas.{with_all_none}
use Rattle.kc_monitor.specs.declared.machine.Machine.{Machine}
use Rattle.kc_monitor.specs.declared.machine.Machine.TheVariants as machines
use Rattle.kc_monitor.specs.declared.monitor.Monitor.{Monitor}
use Rattle.kc_monitor.specs.Rules.{asked}
use Rattle.kc_monitor.specs.Machines.{machine_total, IsReady, IsBegun}
use Rattle.kc_monitor.specs.Watching.{Moment, AreMomentsFrom, state_of, first_in, first_by, end_in, points_in, start_of, total_in, monitor_total, one_at, other_at, AreKept, AreNow, IsOpen, IsStart, IsFinish}
use Rattle.kc_monitor.specs.Runs.{Runs, AreUpTo, AreFitting, asked_in, asked_of, IsLifeSeen}
use Rattle.kc_monitor.proofs.BegunLemmas.{begun_total}

-- ---- as a life begins

-- nothing of this life is reported yet
reported_none : (life : ℕ) (first : Option Found) → IfSome first (λ f. f.life < life) → IsReported life None first
reported_none life None h t = refl
reported_none life (Some f) h t = cond-false (eqb f.life life && is_none f.seen) _ _ (other (eqb f.life life) (is_none f.seen) (ne_eqb f.life life (λ e. omega arith)))
  where
    other : (a b : Bool) → a ≡ false → (a && b) ≡ false
    other a b is = ap (λ x. x && b) is

after_ready : (life : ℕ) (tally : Tally) (m : After) → m.waiting.items ≡ [] → m.late ≡ None → IsReported life None tally.first_bad → IsWaiting life tally m 0
unfolding IsRisingFrom IsUpTo
after_ready life tally m waiting late reported = record {
  rising = subst (λ ws. IsRisingFrom (late_last m.late) ws) (sym waiting) tt;
  upto = subst (λ ws. IsUpTo 0 ws) (sym waiting) tt;
  past = subst (λ l. late_last l ≤ 0) (sym late) (omega arith);
  late = subst (λ l. IsLate l) (sym late) tt;
  reported = subst (λ l. IsReported life l tally.first_bad) (sym late) reported;
}

begun_ready : (life : ℕ) (tally : Tally) (form : Form) (machine : Machine) → IsBegun form machine → IsReported life None tally.first_bad → IsReady life tally machine 0
begun_ready life tally form (machines.Never m) is reported = tt
begun_ready life tally form (machines.Placed m) is reported = tt
begun_ready life tally form (machines.Gaps m) is reported = tt
begun_ready life tally form (machines.Duty m) is reported = tt
begun_ready life tally form (machines.Counted m) is reported = tt
begun_ready life tally form (machines.InLife m) is reported = tt
begun_ready life tally form (machines.Apart m) is reported = tt
begun_ready life tally (forms.After f none e a b) (machines.After m) is reported = after_ready life tally m is.3 is.4 reported
begun_ready life tally (forms.Never e) (machines.After m) is reported = absurd is
begun_ready life tally (forms.At e share f g within) (machines.After m) is reported = absurd is
begun_ready life tally (forms.For steady span) (machines.After m) is reported = absurd is
begun_ready life tally (forms.ForShare steady shares) (machines.After m) is reported = absurd is
begun_ready life tally (forms.Every e span) (machines.After m) is reported = absurd is
begun_ready life tally (forms.InEach span e f g) (machines.After m) is reported = absurd is
begun_ready life tally (forms.InLife span e) (machines.After m) is reported = absurd is
begun_ready life tally (forms.Apart s u d) (machines.After m) is reported = absurd is

some_zero : (o : Option ℕ) → IfSome o (λ t. 0 ≤ t)
some_zero None = tt
some_zero (Some t) = omega arith

start_open : (rule : Rule) (levels : Signal → Level) (m n : Monitor) → IsStart levels rule m n → IsReported n.life None n.tally.first_bad → IsOpen rule.scope.before n 0
start_open rule levels m n start reported = record {
  going = record {
    ready = begun_ready n.life n.tally rule.form n.machine start.machine reported;
    level = λ begun. let no : true ≡ false = sym begun ∙ start.begun in cc;
    begun = λ begun. let no : true ≡ false = sym begun ∙ start.begun in cc;
    unbegun = λ not. some_zero n.from;
  };
  ahead = some_zero (state_of rule.scope.before);
}

-- a monitor that has begun has all still to report
start_total : (rule : Rule) (levels : Signal → Level) (m n : Monitor) (moments : List Moment) (last : ℕ) (one other : Times) → IsStart levels rule m n →
    monitor_total rule n moments last 0 one other ≡ with_all n.life n.tally (asked_of rule moments last one other)
start_total rule levels m n moments last one other start =
    cond-false n.closed n.tally (total_in rule.form n moments 0 one other (first_in rule.scope.from n.from moments) (end_in rule.scope.before moments last)) start.closed
    ∙ ap (λ f. total_in rule.form n moments 0 one other (first_in rule.scope.from f moments) (end_in rule.scope.before moments last)) start.from
    ∙ by_first rule levels m n moments one other start (first_in rule.scope.from (first_by rule.scope.from) moments) (end_in rule.scope.before moments last)
  where
    by_first : (rule : Rule) (levels : Signal → Level) (m n : Monitor) (moments : List Moment) (one other : Times) → IsStart levels rule m n → (first : Option ℕ) (end : ℕ) →
        total_in rule.form n moments 0 one other first end ≡ with_all n.life n.tally (asked_in rule.form moments one other first end)
    by_first rule levels m n moments one other start None end = sym (with_all_none n.life n.tally)
    by_first rule levels m n moments one other start (Some first) end =
        let points = points_in rule.form first end moments in
        elim (cases_Bool (ltb first end)) [
          | inl less ↦
              cond-true (ltb first end) (machine_total n.life n.tally n.machine first end points one other (start_of n.begun first 0)) n.tally less
              ∙ ap (λ b. machine_total n.life n.tally n.machine first end points one other (start_of b first 0)) start.begun
              ∙ begun_total n.life n.tally rule.form n.machine first end points one other start.machine
              ∙ ap (λ os. with_all n.life n.tally os) (sym (cond-true (ltb first end) (asked rule.form first end points one other) [] less))
          | inr not ↦
              cond-false (ltb first end) (machine_total n.life n.tally n.machine first end points one other (start_of n.begun first 0)) n.tally not
              ∙ sym (with_all_none n.life n.tally)
              ∙ ap (λ os. with_all n.life n.tally os) (sym (cond-false (ltb first end) (asked rule.form first end points one other) [] not))
        ]

-- ---- from moment to moment

run_total : (rule : Rule) (moments : List Moment) (m p q : Monitor) (next last : ℕ) (a b : Bool) (one other : Times) → Runs rule moments m p → IsFinish last rule p q →
    AreMomentsFrom next moments → AreUpTo last moments → next ≤ last + 1 → last < 2 ^ 63 → (m.closed ≡ false → IsOpen rule.scope.before m next) →
    (m.closed ≡ false → (m.one ≡ a) × (m.other ≡ b)) → AreFitting rule.form a b next moments last one other →
    monitor_total rule m moments last next one other ≡ q.tally
unfolding Runs AreMomentsFrom AreUpTo AreFitting
run_total rule [] m p q next last a b one other runs finish order within le short opened flags fit =
    let kept = λ (not : m.closed ≡ false). subst (λ x. AreKept x m.other next (last + 1) one other) (sym (flags not).0)
    (subst (λ y. AreKept a y next (last + 1) one other) (sym (flags not).1) fit) in
    let ended : IsFinish last rule m q = subst (λ x. IsFinish last rule x q) (sym runs) finish in
    ended.total next one other short le opened kept
run_total rule (mo ∷ moments) m p q next last a b one other runs finish order within le short opened flags fit =
    let k = runs.0 in
    let step = runs.1 in
    let kept = λ (not : m.closed ≡ false). subst (λ x. AreKept x m.other next mo.at one other) (sym (flags not).0)
    (subst (λ y. AreKept a y next mo.at one other) (sym (flags not).1) fit.0) in
    let now = λ (not : m.closed ≡ false). subst (λ x. AreNow rule.form mo.levels x m.other mo.at one other) (sym (flags not).0)
    (subst (λ y. AreNow rule.form mo.levels a y mo.at one other) (sym (flags not).1) fit.1) in
    let later : k.closed ≡ false → (k.one ≡ one_at rule.form mo.levels a) × (k.other ≡ other_at rule.form mo.levels b) = λ not.
    let here = step.flags not in
    let before = flags here.0 in
    (here.1 ∙ ap (λ x. one_at rule.form mo.levels x) before.0, here.2 ∙ ap (λ y. other_at rule.form mo.levels y) before.1) in
    step.total next last moments one other order.0 within.0 order.1 opened kept now
    ∙ run_total rule moments k p q (mo.at + 1) last (one_at rule.form mo.levels a) (other_at rule.form mo.levels b) one other runs.2 finish order.1 within.1
    (omega (arith, within.0)) short (step.going next order.0 opened) later fit.2

-- ---- a life

pub life_reported : (rule : Rule) (levels : Signal → Level) (moments : List Moment) (last : ℕ) (m n p q : Monitor) (one other : Times) →
    IsLifeSeen rule levels moments last m n p q → AreFitting rule.form (one_at rule.form levels false) (other_at rule.form levels false) 0 moments last one other →
    q.tally ≡ with_all (m.life + 1) m.tally (asked_of rule moments last one other)
life_reported rule levels moments last m n p q one other seen fit =
    let start = seen.start in
    let life : n.life ≡ m.life + 1 = start.life ∙ omega (arith, seen.few) in
    let reported : IsReported n.life None n.tally.first_bad = reported_none n.life n.tally.first_bad (earlier_now m.life n.life m.tally.first_bad n.tally.first_bad (ap (λ t. t.first_bad) start.tally) life seen.earlier) in
    sym (run_total rule moments n p q 0 last (one_at rule.form levels false) (other_at rule.form levels false) one other seen.runs seen.finish seen.order seen.within
    (omega arith) seen.short (λ not. start_open rule levels m n start reported) (λ not. (start.one, start.other)) fit)
    ∙ start_total rule levels m n moments last one other start
    ∙ (λ i. with_all (life i) (start.tally i) (asked_of rule moments last one other))
  where
    earlier_now : (before now : ℕ) (first here : Option Found) → here ≡ first → now ≡ before + 1 → IfSome first (λ f. f.life ≤ before) → IfSome here (λ f. f.life < now)
    earlier_now before now first here is next h = subst (λ o. IfSome o (λ f. f.life < now)) (sym is) (weaker before now first next h)
      where
        weaker : (before now : ℕ) (first : Option Found) → now ≡ before + 1 → IfSome first (λ f. f.life ≤ before) → IfSome first (λ f. f.life < now)
        weaker before now None next h = tt
        weaker before now (Some f) next h = omega arith

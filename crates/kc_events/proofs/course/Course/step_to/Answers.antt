use Rattle.std.proofs.Common.{◌≡◌, ◌++◌, ◌-◌, false, true, Ok, Some, None, List, [], ◌∷◌, sym, subst, rules}
use Rattle.kc_trace.specs.declared.life.What.{What}
use Rattle.kc_events.specs.declared.course.Step.TheVariants as step
use Rattle.kc_events.specs.Underway.{Underway, GoesIfAhead, Gives, ReportsNone}
use Rattle.kc_events.proofs.StepLemmas.{begins, event_passes, event_happens}
use Rattle.kc_events.proofs.course.Course.step_to.Goals as goal

pub returns-then-not-self-clause-stepped : goal.returns-then-not-self-clause-stepped
returns-then-not-self-clause-stepped c =
    let s = c.self.inside in
    let u : Underway = record {
      drives = s.stimuli;
      base = s.base;
      time = s.time;
      levels = s.levels;
      whats = s.whats.items;
      has_begun = s.has_begun;
      passed = s.passed.items;
      ahead = s.ahead;
      known = s.known;
    } in
    let none : s.has_begun ≡ false = search rules in
    let ahead = subst (λ (v : Underway). v.ahead ≡ Some c.args.event) (sym c.self.view_is) c.requires.ahead in
    let goes = subst (λ a. GoesIfAhead a s.known) ahead c.self.invariant.goes in
    subst (λ (v : Underway). Gives v step.Begins (record u { has_begun = true })) c.self.view_is (begins u none goes)

pub returns-then-branch-clause-stepped : goal.returns-then-branch-clause-stepped
returns-then-branch-clause-stepped c =
    let u : Underway = c.args.self.now in
    let w : Underway = c.reach.new.self in
    let goes = subst (λ a. GoesIfAhead a u.known) c.requires.ahead (subst (λ (v : Underway). GoesIfAhead v.ahead v.known) c.self.view_is c.self.invariant.goes) in
    let is : c.reach.result ≡ Ok true = search rules in
    subst (λ (v : Underway). Gives u (step.Passes (v.time - 1)) w) (sym c.self-2.view_is)
    (event_passes u w c.args.event c.requires.ahead goes (c.reach.ensures.passed is) (c.reach.ensures.within is) c.in_ok-reach.ensures.kept)

pub returns-clause-stepped : goal.returns-clause-stepped
returns-clause-stepped c =
    let u : Underway = c.args.self.now in
    let s = c.self-2.inside in
    let v : Underway = record {
      drives = s.stimuli;
      base = s.base;
      time = s.time;
      levels = s.levels;
      whats = s.whats.items;
      has_begun = s.has_begun;
      passed = s.passed.items;
      ahead = s.ahead;
      known = s.known;
    } in
    let goes = subst (λ a. GoesIfAhead a u.known) c.requires.ahead (subst (λ (x : Underway). GoesIfAhead x.ahead x.known) c.self.view_is c.self.invariant.goes) in
    let is : c.reach.result ≡ Ok false = search rules in
    let what = c.args.event.what in
    let happens = event_happens u c.reach.new.self c.args.event c.requires.ahead goes (c.reach.ensures.reached is) (c.reach.ensures.there is) c.in_ok-reach.ensures.kept in
    let there = subst (λ (w : Underway). ReportsNone u (record w { whats = w.whats ++ what ∷ []; ahead = None })) (sym c.self-2.view_is) happens in
    subst (λ (whats : List What). ReportsNone u (record v { whats = whats; ahead = None })) (sym c.in_ok-push.ensures.items) there

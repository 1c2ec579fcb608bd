use Rattle.std.proofs.Common.{◌≡◌, ◌<◌, ◌-◌, ◌∙◌, false, true, Ok, sym, subst, rules, arith}
use Rattle.kc_events.specs.declared.course.Step.TheVariants as step
use Rattle.kc_events.specs.Underway.{Underway, Gives}
use Rattle.kc_events.proofs.StepLemmas.{end_passes, end_none, end_gives}
use Rattle.kc_events.proofs.course.Course.finish.Goals as goal

pub returns-then-branch-clause-stepped : goal.returns-then-branch-clause-stepped
returns-then-branch-clause-stepped c =
    let u : Underway = c.args.self.now in
    let w : Underway = c.reach.new.self in
    let is : c.reach.result ≡ Ok true = search rules in
    subst (λ (v : Underway). Gives u (step.Passes (v.time - 1)) w) (sym c.self-2.view_is)
    (end_passes u w c.args.count c.args.is_followed c.requires.ahead c.requires.known (c.reach.ensures.passed is) (c.reach.ensures.within is) c.in_ok-reach.ensures.kept)

pub returns-then-count-eq0-clause-stepped : goal.returns-then-count-eq0-clause-stepped
returns-then-count-eq0-clause-stepped c =
    let u : Underway = c.args.self.now in
    let is : c.reach.result ≡ Ok false = search rules in
    let had : u.has_begun ≡ true = search rules in
    let begun = c.in_ok-reach.ensures.kept.begun ∙ had in
    let none : c.args.count ≡ 0 = search rules in
    end_none u c.reach.new.self c.end.new.self c.args.count c.args.is_followed c.requires.ahead c.requires.known (c.reach.ensures.reached is) (c.reach.ensures.there is) begun
    c.in_ok-end.ensures.rest c.in_ok-end.ensures.ahead c.in_ok-end.ensures.coming none

pub returns-else-count-eq0-clause-stepped : goal.returns-else-count-eq0-clause-stepped
returns-else-count-eq0-clause-stepped c =
    let u : Underway = c.args.self.now in
    let is : c.reach.result ≡ Ok false = search rules in
    let had : u.has_begun ≡ true = search rules in
    let begun = c.in_ok-reach.ensures.kept.begun ∙ had in
    let some : 0 < c.args.count = search (rules, arith) in
    end_gives u c.reach.new.self c.end.new.self c.args.count c.args.is_followed c.requires.ahead c.requires.known (c.reach.ensures.reached is) (c.reach.ensures.there is) begun
    c.in_ok-end.ensures.rest c.in_ok-end.ensures.ahead c.in_ok-end.ensures.coming some

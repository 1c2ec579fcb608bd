use Rattle.std.proofs.Common.{◌≡◌, ◌<◌, ◌∙◌, true, [], rules}
use Rattle.kc_events.specs.Underway.{Underway}
use Rattle.kc_events.proofs.StepLemmas.{reach_passes, reach_same}
use Rattle.kc_events.proofs.course.Course.reach.Goals as goal

pub returns-then-not-is_empty-clause-passed : goal.returns-then-not-is_empty-clause-passed
returns-then-not-is_empty-clause-passed c = λ h.
    let u : Underway = c.loop-self.self in
    let begun : u.has_begun ≡ true = c.loop-self.invariant.2.begun ∙ c.requires.begun in
    let some : u.whats ≡ [] → ⊥ = λ none. search (rules, none) in
    let less : u.time < c.args.at = search rules in
    reach_passes c.args.self.now u c.pass.new.self c.args.at c.loop-self.invariant.0 begun some less c.in_ok-pass.ensures.present c.in_ok-pass.ensures.passed

pub loop-self-preserved : goal.loop-self-preserved
loop-self-preserved c =
    let life = c.loop-self.invariant.2 in
    let kept = c.in_ok-skip.ensures.kept in (
      reach_same c.args.self.now c.loop-self.self c.skip.new.self c.args.at c.loop-self.invariant.0 c.in_ok-skip.ensures.same,
      λ first. c.in_ok-skip.ensures.within,
      record { base = kept.base ∙ life.base; begun = kept.begun ∙ life.begun; ahead = kept.ahead ∙ life.ahead; known = kept.known ∙ life.known },
      c.in_ok-skip.ensures.still,
    )

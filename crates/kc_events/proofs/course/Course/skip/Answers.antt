use Rattle.std.proofs.Common.{◌≡◌, ◌++◌, ◌+◌, true, List, [], sym, ap, subst, ◌∙◌}
use Rattle.std.proofs.lemmas.Result.{on_ok_weaker}
use Rattle.kc_trace.specs.declared.life.What.{What}
use Rattle.kc_trace.specs.Tables.{level_in}
use Rattle.kc_events.specs.Lives.{input_edges}
use Rattle.kc_events.specs.Coming.{IsStillIn, HasSameRest}
use Rattle.kc_events.specs.Underway.{Underway, present_in}
use Rattle.kc_events.proofs.StepLemmas.{skip_same}
use Rattle.kc_events.proofs.course.Course.skip.Goals as goal

pub returns-clause-same : goal.returns-clause-same
returns-clause-same c =
    let s = c.self.inside in
    let u : Underway = record {
      drives = s.stimuli;
      base = s.base;
      time = s.time;
      levels = s.levels;
      whats = s.whats.items;
      has_begun = s.has_begun;
      passed = s.passed.items;
      ahead = s.ahead;
      known = s.known;
    } in
    let to = c.next_state-self-inside.result in
    let whats = c.put_edges.new.whats.items in
    let none = subst (λ (v : Underway). v.whats ≡ []) (sym c.self.view_is) c.requires.still in
    let begun = subst (λ (v : Underway). v.has_begun ≡ true) (sym c.self.view_is) c.requires.begun in
    let still = subst (λ (v : Underway). IsStillIn (present_in v)) (sym c.self.view_is) c.requires.quiet in
    let next = c.next_state-self-inside.ensures in
    on_ok_weaker c.put_edges.result (λ put.
    let edges = put ∙ ap (λ (w : List What). w ++ input_edges s.stimuli (level_in s.levels) (s.base + to)) none in
    subst (λ (v : Underway). HasSameRest c.args.at (present_in v) (present_in (record u { time = to; whats = whats }))) c.self.view_is
    (skip_same u c.args.at to whats next.later begun none next.within still next.still edges))
    c.put_edges.ensures

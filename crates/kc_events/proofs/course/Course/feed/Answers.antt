use Rattle.std.proofs.Common.{◌≡◌, true, sym, subst}
use Rattle.kc_events.specs.Underway.{Underway, IsEarly, needs_line}
use Rattle.kc_events.proofs.StepLemmas.{living, goes_if}
use Rattle.kc_events.proofs.course.Course.feed.Goals as goal

pub invariant_of-self : goal.invariant_of-self
invariant_of-self c =
    let old = c.self.inside in
    let needs = subst (λ (u : Underway). needs_line u.ahead u.known ≡ true) (sym c.self.view_is) c.requires.needs in
    let lives = living old.ahead old.known needs c.in_default.not-Ended in
    let early = subst (λ (u : Underway). IsEarly u.base u.known c.args.line.now) (sym c.self.view_is) c.requires.early in
    record {
      base = c.self.invariant.base;
      time = c.self.invariant.time;
      event = c.news-ahead.ensures.early;
      end = c.news-ahead.ensures.end old.base (subst (λ k. IsEarly old.base k c.args.line.now) lives.1 early);
      goes = goes_if c.news-ahead.result.0 c.news-ahead.result.1 c.news-ahead.ensures.goes;
    }

use Rattle.std.proofs.Common.{◌-◌, sym, ◌∙◌, ap, subst}
use Rattle.kc_span.specs.Span.{after}
use Rattle.kc_timers.specs.T2.{timer2_rule}
use Rattle.kc_span.specs.DeferredUnit.{deferred_at}
use Rattle.kc_block_units.specs.Scheduler.{shown_units, IsScheduled}
use Rattle.kc_block_units.proofs.CatchingUp.{timer2_caught_up, timer2_caught_up_shows}
use Rattle.kc_block_units.specs.Standing.{standing}
use Rattle.kc_block_units.proofs.scheduler.Scheduler.catch_up_timers.Goals as goal

pub returns-clause-left : goal.returns-clause-left
returns-clause-left g c = record {
  scheduled = let mid = standing g.X.Extra.plain c.catch_up_hso.new.self in
      let timer2 = c.catch_up_hso.new.self.timer2 in
      let inner = c.quiet_to.ensures.inner ∙ ap (λ k. after (timer2_rule k) timer2.at (c.args.now - timer2.at) timer2.unit.inner) c.control-control.ensures in
      subst (λ h. IsScheduled g.X.Extra.further g.X.Extra.agrees h c.args.now) (sym (ap (λ d. record mid { timer2 = deferred_at c.args.now d }) inner))
      (timer2_caught_up g.X.Extra.further g.X.Extra.agrees (record { rests = g.met.X.Extra.rests; rests_out = g.met.X.Extra.rests_out; rest_keeps = g.met.X.Extra.rest_keeps; keeps = g.met.X.Extra.keeps; start_keeps = g.met.X.Extra.start_keeps }) mid c.args.now c.catch_up_hso.ensures.left.scheduled (ap (λ h. h.hso.at) c.catch_up_hso.ensures.standing));
  shows = let mid = standing g.X.Extra.plain c.catch_up_hso.new.self in
      let timer2 = c.catch_up_hso.new.self.timer2 in
      let inner = c.quiet_to.ensures.inner ∙ ap (λ k. after (timer2_rule k) timer2.at (c.args.now - timer2.at) timer2.unit.inner) c.control-control.ensures in
      ap (λ h. shown_units g.X.Extra.further h c.args.now) (ap (λ d. record mid { timer2 = deferred_at c.args.now d }) inner)
      ∙ timer2_caught_up_shows g.X.Extra.further g.X.Extra.agrees (record { rests = g.met.X.Extra.rests; rests_out = g.met.X.Extra.rests_out; rest_keeps = g.met.X.Extra.rest_keeps; keeps = g.met.X.Extra.keeps; start_keeps = g.met.X.Extra.start_keeps }) mid c.args.now c.catch_up_hso.ensures.left.scheduled (ap (λ h. h.hso.at) c.catch_up_hso.ensures.standing)
      ∙ c.catch_up_hso.ensures.left.shows;
}

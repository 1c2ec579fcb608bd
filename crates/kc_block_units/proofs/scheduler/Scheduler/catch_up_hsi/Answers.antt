use Rattle.std.proofs.Common.{sym, ◌∙◌, ap, subst}
use Rattle.kc_span.specs.DeferredUnit.{deferred_at}
use Rattle.kc_block_units.specs.Scheduler.{shown_units, IsScheduled}
use Rattle.kc_block_units.proofs.CatchingUp.{hsi_caught_up, hsi_caught_up_shows}
use Rattle.kc_block_units.specs.Standing.{standing}
use Rattle.kc_block_units.proofs.scheduler.Scheduler.catch_up_hsi.Goals as goal

pub returns-clause-left : goal.returns-clause-left
returns-clause-left g c = record {
  scheduled = subst (λ h. IsScheduled g.X.Extra.further g.X.Extra.agrees h c.args.now) (sym (ap (λ d. record (standing g.X.Extra.plain c.args.self.now) { hsi = deferred_at c.args.now d }) c.quiet_to.ensures.inner))
      (hsi_caught_up g.X.Extra.further g.X.Extra.agrees (record { rests = g.met.X.Extra.rests; rests_out = g.met.X.Extra.rests_out; rest_keeps = g.met.X.Extra.rest_keeps; keeps = g.met.X.Extra.keeps; start_keeps = g.met.X.Extra.start_keeps }) (standing g.X.Extra.plain c.args.self.now) c.args.now c.requires.present.scheduled);
  shows = ap (λ h. shown_units g.X.Extra.further h c.args.now) (ap (λ d. record (standing g.X.Extra.plain c.args.self.now) { hsi = deferred_at c.args.now d }) c.quiet_to.ensures.inner)
      ∙ hsi_caught_up_shows g.X.Extra.further g.X.Extra.agrees (record { rests = g.met.X.Extra.rests; rests_out = g.met.X.Extra.rests_out; rest_keeps = g.met.X.Extra.rest_keeps; keeps = g.met.X.Extra.keeps; start_keeps = g.met.X.Extra.start_keeps }) (standing g.X.Extra.plain c.args.self.now) c.args.now c.requires.present.scheduled;
}

use Rattle.std.proofs.Common.{◌≡◌, ◌<◌, ◌∙◌, ap, subst}
use Rattle.kc_timers.specs.declared.T2View.{T2View}
use Rattle.kc_timers.specs.T2.{view_of, value_at}
use Rattle.kc_timers.proofs.T2Laws.{view_shows}
use Rattle.kc_block_spec.specs.Control.{control_of}
use Rattle.kc_block_units.proofs.scheduler.Scheduler.view.Goals as goal

pub returns-clause-view : goal.returns-clause-view
returns-clause-view g c =
    let deferred = c.args.self.now.timer2 in
    let control = control_of c.args.self.now.board_registers c.args.self.now.board_registers.levels in
    let fits : deferred.unit.inner.value < 65536 = subst (λ v. v < 65536) c.value-kept.ensures c.value-kept.type_inv in
    let seen : c.view-view.result ≡ view_of control deferred.unit.inner = c.view-view.ensures ∙ ap (λ k. view_of k deferred.unit.inner) c.control.ensures in
    let value = c.value_at.ensures ∙ ap (λ v. value_at v deferred.at c.args.at) seen ∙ view_shows control deferred.at c.args.at deferred.unit.inner fits c.requires.order in
    λ i. record { value = value i; every = ap (λ (v : T2View). v.every) seen i; down = ap (λ (v : T2View). v.down) seen i }

use Rattle.std.proofs.Common.{◌-◌, refl, sym, ◌∙◌, ap}
use Rattle.kc_cycles.specs.declared.watchdog.Watchdog.{Watchdog}
use Rattle.kc_cycles.specs.Making.{deadline_of}
use Rattle.kc_cycles.proofs.Fitted.{deadline-stands}
use Rattle.kc_cycles.proofs.life.deadline_in.Goals as goal

pub returns : goal.returns
returns g c =
    let lent = c.extra.ensures.lent in
    let deferred = c.args.machine.now.held.further in
    c.deadline.ensures ∙ ap (λ (w : Watchdog). w.deadline) c.second.ensures
    ∙ ap deadline_of c.extra.ensures.held
    ∙ sym (deadline-stands _ (λ t d. refl) deferred.at (c.args.machine.now.machine.time - deferred.at) deferred.kept)
    ∙ ap deadline_of (sym lent.leads)

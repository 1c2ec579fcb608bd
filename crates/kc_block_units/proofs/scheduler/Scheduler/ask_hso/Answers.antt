use Rattle.std.proofs.Common.{sym, subst}
use Rattle.kc_span.specs.Span.{IsDue}
use Rattle.kc_block_units.specs.Scheduler.{hso_goes}
use Rattle.kc_block_units.proofs.CatchingUp.{hso_asked}
use Rattle.kc_block_units.specs.Standing.{standing}
use Rattle.kc_block_units.proofs.scheduler.Scheduler.ask_hso.Goals as goal

pub returns-clause-due : goal.returns-clause-due
returns-clause-due g c =
    let old = standing g.X.Extra.plain c.args.self.now in
    subst (λ slot. IsDue (hso_goes old) c.args.now c.args.self.now.hso.unit.inner slot) (sym c.set_slot.ensures.here)
    (hso_asked old c.args.now c.view-view.result c.due-due.result c.requires.timer2 c.view-view.ensures.range c.view-view.ensures.view c.due-due.ensures.due)

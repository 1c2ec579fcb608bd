use Rattle.std.proofs.Common.{ap, ◌∙◌}
use Rattle.kc_block_units.specs.Scheduler.{shown_units}
use Rattle.kc_block_units.specs.Standing.{standing}
use Rattle.kc_block_sfr.specs.Holding.{timer2_view}
use Rattle.kc_block_sfr.proofs.Due.{due_in, found_in}
use Rattle.kc_block_sfr.proofs.holding.hso_due.Goals as goal

pub returns-clause-due : goal.returns-clause-due
returns-clause-due g c =
    due_in (shown_units g.X.Extra.further (standing g.X.Extra.plain c.args.scheduler.now) c.args.now) c.args.now c.args.slot _ _ _
    (c.view-view.ensures.view ∙ ap timer2_view c.catch_up_hso.ensures.shows) c.catch_up_hso.ensures.there c.slot_due.ensures.due

pub returns-clause-found : goal.returns-clause-found
returns-clause-found g c =
    found_in (shown_units g.X.Extra.further (standing g.X.Extra.plain c.args.scheduler.now) c.args.now) c.args.now c.args.slot _ _ _
    (c.view-view.ensures.view ∙ ap timer2_view c.catch_up_hso.ensures.shows) c.catch_up_hso.ensures.there c.slot_due.ensures.found

use Rattle.std.proofs.Common.{sym, subst}
use Rattle.kc_span.specs.Span.{Counted}
use Rattle.kc_hso.specs.Cam.{Cam}
use Rattle.kc_span.specs.DeferredUnit.{deferred_at}
use Rattle.kc_block_units.specs.Scheduler.{shown_units, IsLeft}
use Rattle.kc_block_units.specs.Standing.{standing}
use Rattle.kc_block_sfr.proofs.Left.{command_left}
use Rattle.kc_block_sfr.proofs.acting.write_hso_command.Goals as goal

pub returns-clause-left : goal.returns-clause-left
returns-clause-left g c =
    let h = standing g.X.Extra.plain c.args.scheduler.now in
    let u = shown_units g.X.Extra.further h c.args.now in
    subst (λ (unit : Counted Cam). IsLeft g.X.Extra.further g.X.Extra.agrees c.args.now (record h { hso = deferred_at h.hso.at unit.inner }) (record u { hso = record u.hso { command = c.args.value } }))
    (sym c.command.ensures)
    (command_left g.X.Extra.further g.X.Extra.agrees h c.args.now c.args.value c.requires)

use Rattle.std.proofs.Common.{subst}
use Rattle.kc_block.specs.Lent.{IsLent}
use Rattle.kc_block_units.specs.Scheduler.{further_goes}
use Rattle.kc_machine.proofs.machine.Machine.extra.Goals as goal

pub returns-clause-lent : goal.returns-clause-lent
returns-clause-lent g c =
    subst (λ n. IsLent (further_goes g.X.Extra.further) n.held.further n.machine.time n.machine.board.units.further) c.self.view_is
    (subst (λ t. IsLent (further_goes g.X.Extra.further) c.self.inside.core.bus.block.held.further t c.self.inside.core.bus.block.units.further) c.self.invariant.stands c.extra.ensures.lent.further)

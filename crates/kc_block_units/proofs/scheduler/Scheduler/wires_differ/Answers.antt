use Rattle.std.proofs.Common.{not, sym, ap, ◌∙◌}
use Rattle.kc_block_units.specs.Standing.{standing}
use Rattle.kc_block_units.proofs.Wires.{nothing_differs}
use Rattle.kc_block_units.proofs.scheduler.Scheduler.wires_differ.Goals as goal

pub returns-then-has_no_wire : goal.returns-then-has_no_wire
returns-then-has_no_wire g c =
    sym (ap not (nothing_differs (standing g.X.Extra.plain c.args.self.now) c.args.now c.requires.held (sym c.has_no_wire.ensures ∙ c.if-has_no_wire.true)))

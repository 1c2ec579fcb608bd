use Rattle.std.proofs.Common.{◌+◌, ◌∙◌}
use Rattle.kc_debug.proofs.Idling.{stops-at-breaks}
use Rattle.kc_debug.proofs.Passing.{at_break}
use Rattle.kc_debug.proofs.stops.BreaksStops.are_met.Goals as goal

pub returns-then-between-clause-met : goal.returns-then-between-clause-met
returns-then-between-clause-met g c = λ m o i states follows some at_once lives same lines unbroken. (
  at_break c.args.machine.now.machine c.args.self.now.addresses.now c.between.result c.has.result c.if-between.true c.between.ensures c.has.ensures
      ∙ stops-at-breaks g.X.Extra.further c.args.self.now.addresses.now (i + states) m c.args.machine.now.machine same,
  λ e. tt,
  λ e. tt,
)

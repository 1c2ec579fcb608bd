use Rattle.std.proofs.Common.{◌-◌, ◌∙◌}
use Rattle.kc_convert.proofs.PulseRules.{pulses_after}
use Rattle.kc_convert.proofs.pulses.PulsesExtra.quiet_to.Goals as goal

pub returns-clause-plain : goal.returns-clause-plain
returns-clause-plain g c =
    (λ i. record { first = c.go_on.ensures i; second = c.go_on-2.ensures i; third = c.go_on-3.ensures i; moves = 0 })
    ∙ pulses_after c.args.now (c.args.to - c.args.now) (record c.args.self.now { moves = 0 })

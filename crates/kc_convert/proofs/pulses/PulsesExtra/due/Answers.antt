use Rattle.std.proofs.Common.{sym, ◌∙◌, ap, subst}
use Rattle.kc_span.specs.Span.{IsDue, least_of}
use Rattle.kc_base.specs.Pins.{pwm0, pwm1, pwm2}
use Rattle.kc_convert.proofs.PulseRules.{pulses_rule, pulses_due}
use Rattle.kc_convert.proofs.pulses.PulsesExtra.due.Goals as goal

pub returns-clause-due : goal.returns-clause-due
returns-clause-due g c =
    subst (λ o. IsDue pulses_rule c.args.now (record c.args.self.now { moves = 0 }) o) (sym (c.earlier-2.ensures ∙ ap (least_of c.next_edge-first.result) c.earlier.ensures))
    (pulses_due c.args.now (record c.args.self.now { moves = 0 }) c.next_edge-first.result c.next_edge-second.result c.next_edge-third.result
    (c.next_edge-first.ensures pwm0) (c.next_edge-second.ensures pwm1) (c.next_edge-third.ensures pwm2))

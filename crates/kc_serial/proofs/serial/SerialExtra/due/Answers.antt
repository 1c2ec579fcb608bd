use Rattle.std.proofs.Common.{◌≡◌, ◌+◌, subst, sym, ◌∙◌, Some, None}
use Rattle.std.specs.Option.{option_map}
use Rattle.kc_span.specs.Span.{IsDue, least_of}
use Rattle.kc_serial.proofs.PortLaws.{port_rule, port_due}
use Rattle.kc_serial.proofs.serial.SerialExtra.due.Goals as goal

pub returns-in-Some-clause-due : goal.returns-in-Some-clause-due
returns-in-Some-clause-due g c =
    let left : least_of c.sending_left-sending.result c.reception_left-receiving.result ≡ Some c.in-Some.states = sym c.earlier.ensures ∙ c.in-Some.is in
    subst (λ o. IsDue port_rule c.args.now (record c.args.self.now { moves = 0 }) (option_map (λ n. c.args.now + n) o)) left
    (port_due (record c.args.self.now { moves = 0 }) c.args.now c.sending_left-sending.result c.reception_left-receiving.result
    c.sending_left-sending.ensures.before c.reception_left-receiving.ensures.before)

pub returns-in-None-clause-due : goal.returns-in-None-clause-due
returns-in-None-clause-due g c =
    let left : least_of c.sending_left-sending.result c.reception_left-receiving.result ≡ None = sym c.earlier.ensures ∙ c.in-None.is in
    subst (λ o. IsDue port_rule c.args.now (record c.args.self.now { moves = 0 }) (option_map (λ n. c.args.now + n) o)) left
    (port_due (record c.args.self.now { moves = 0 }) c.args.now c.sending_left-sending.result c.reception_left-receiving.result
    c.sending_left-sending.ensures.before c.reception_left-receiving.ensures.before)

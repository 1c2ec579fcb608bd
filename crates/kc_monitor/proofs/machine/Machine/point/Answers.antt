use Rattle.std.proofs.Common.{◌∷◌, ap, ◌∙◌}
use Rattle.kc_monitor_forms.specs.Tallies.{with_all}
use Rattle.kc_monitor.specs.Machines.{machine_total}
use Rattle.kc_monitor.proofs.machine.Machine.point.Goals as goal

pub returns-in-InLife-clause-total : goal.returns-in-InLife-clause-total
returns-in-InLife-clause-total c = λ ready first end points one other next within order.
    let life = c.args.life in
    let tally = c.args.tally.now in
    ap (λ m. machine_total life tally m first end (c.args.point ∷ points) one other next) c.in-InLife.is
    ∙ ap (λ os. with_all life tally os) (c.point-in-InLife.ensures first points)

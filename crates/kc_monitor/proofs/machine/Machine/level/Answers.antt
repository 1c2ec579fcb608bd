use Rattle.std.proofs.Common.{◌+◌, ◌-◌, sym, ap, ◌∙◌}
use Rattle.kc_monitor_forms.specs.Tallies.{with_all}
use Rattle.kc_monitor_forms.specs.Sides.{side_at, asked_in, asked_from}
use Rattle.kc_monitor_forms.proofs.SideLemmas.{from_next}
use Rattle.kc_monitor.specs.Machines.{machine_total}
use Rattle.kc_monitor.proofs.machine.Machine.level.Goals as goal

pub returns-in-Apart-clause-total : goal.returns-in-Apart-clause-total
returns-in-Apart-clause-total c = λ first end points has_one has_other less one_now other_now.
    let life = c.args.life in
    let tally = c.args.tally.now in
    let at = c.args.at in
    let m = c.in-Apart.apart in
    let kept = c.state.ensures.kept in
    ap (λ a. machine_total life tally a first end points has_one has_other at) c.in-Apart.is
    ∙ from_next life tally m.distance at end has_one has_other m.one m.other less
    ∙ (λ i. with_all life (with_all life tally (asked_in m.distance at m.one (one_now i) m.other (other_now i)))
    (asked_from m.distance (side_at m.one at (one_now i)) (side_at m.other at (other_now i)) has_one has_other (at + 1) (end - (at + 1))))
    ∙ (λ i. with_all life (sym c.state.ensures.reported i)
    (asked_from (sym kept i).distance (sym kept i).one (sym kept i).other has_one has_other (at + 1) (end - (at + 1))))

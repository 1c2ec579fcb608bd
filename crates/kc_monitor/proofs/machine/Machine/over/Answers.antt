use Rattle.std.proofs.Common.{[], ap, ◌∙◌}
use Rattle.kc_monitor.specs.Machines.{machine_total}
use Rattle.kc_monitor.proofs.MachineLemmas.{placed_over, duty_over, apart_over}
use Rattle.kc_monitor.proofs.machine.Machine.over.Goals as goal

pub returns-in-Placed : goal.returns-in-Placed
returns-in-Placed c = λ one other.
    let m = c.in-Placed.field-0 in
    ap (λ a. machine_total c.args.life c.args.tally.now a c.args.first c.args.end [] one other c.args.end) c.in-Placed.is
    ∙ placed_over c.args.life c.args.tally.now m.share m.within m.piece

pub returns-in-Duty : goal.returns-in-Duty
returns-in-Duty c = λ one other.
    let m = c.in-Duty.field-0 in
    ap (λ a. machine_total c.args.life c.args.tally.now a c.args.first c.args.end [] one other c.args.end) c.in-Duty.is
    ∙ duty_over c.args.life c.args.tally.now m.shares m.kept

pub returns-in-Apart : goal.returns-in-Apart
returns-in-Apart c = λ one other.
    let m = c.in-Apart.field-0 in
    ap (λ a. machine_total c.args.life c.args.tally.now a c.args.first c.args.end [] one other c.args.end) c.in-Apart.is
    ∙ apart_over c.args.life c.args.tally.now m.distance c.args.end one other m.one m.other

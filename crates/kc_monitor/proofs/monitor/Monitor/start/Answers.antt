use Rattle.std.proofs.Common.{ap, ◌∙◌}
use Rattle.kc_monitor.specs.Machines.{machine_total}
use Rattle.kc_monitor.specs.Watching.{start_of}
use Rattle.kc_monitor.proofs.MachineLemmas.{machine_later}
use Rattle.kc_monitor.proofs.monitor.Monitor.start.Goals as goal

pub returns-then-self-clause-total : goal.returns-then-self-clause-total
returns-then-self-clause-total c = λ next end points one other le within later level unbegun kept.
    let m = c.args.self.now in
    let first = c.args.first in
    ap (λ b. machine_total m.life m.tally m.machine first end points one other (start_of b first next)) c.if-self.true
    ∙ machine_later m.life m.tally m.machine first end points one other next c.args.at m.one m.other (level c.if-self.true) later within kept.one_kept kept.other_kept

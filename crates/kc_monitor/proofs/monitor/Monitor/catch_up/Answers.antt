use Rattle.std.proofs.Common.{◌+◌, ◌∙◌, arith}
use Rattle.kc_monitor.proofs.MachineLemmas.{machine_later}
use Rattle.kc_monitor.proofs.monitor.Monitor.catch_up.Goals as goal

pub returns-then-first-at-clause-total : goal.returns-then-first-at-clause-total
returns-then-first-at-clause-total c = λ end points one other le within kept.
    let m = c.args.self.now in
    let first = c.args.first in
    c.level.ensures.total first end points one other (omega arith) (kept.one_kept first (omega arith) (omega arith)) (kept.other_kept first (omega arith) (omega arith))
    ∙ machine_later m.life c.level.new.self.tally c.level.new.self.machine first end points one other (first + 1) c.args.at m.one m.other
    c.level.ensures.level (omega arith) within (λ i from to. kept.one_kept i (omega arith) to) (λ i from to. kept.other_kept i (omega arith) to)

use Rattle.std.proofs.Common.{None, [], ap, ◌∙◌}
use Rattle.kc_monitor_forms.specs.Machines.{waiting_total}
use Rattle.kc_monitor_forms.proofs.AfterLemmas.{late_total, over_total}
use Rattle.kc_monitor_forms.proofs.after.After.over.Goals as goal

pub waiting-init : goal.waiting-init
waiting-init c =
    let m = c.args.self.now in
    late_total c.args.life m.least m.most c.args.end m.none c.args.tally.now m.late None m.waiting.items

pub waiting-preserved : goal.waiting-preserved
waiting-preserved c = c.waiting.invariant ∙ c.finish_one.ensures.total

pub returns : goal.returns
returns c =
    let life = c.args.life in
    let end = c.args.end in
    let m = c.finish_one.new.self in
    let tally = c.finish_one.new.tally in
    c.waiting.invariant ∙ c.finish_one.ensures.total
    ∙ ap (λ ws. waiting_total life tally m.none m.least m.most m.late ws end []) (c.finish_one.ensures.none c.waiting-test.false)
    ∙ over_total life m.least m.most end m.none tally m.late

use Rattle.kc_debug.proofs.Idling.{idles-clear}
use Rattle.std.proofs.Common.{◌-◌}
use Rattle.kc_debug.proofs.carrying.idle_end.Goals as goal

pub returns-then-passes_idle-clause-clear : goal.returns-then-passes_idle-clause-clear
returns-then-passes_idle-clause-clear g c =
    let m = c.args.machine.now.machine in
    let n = c.idles_to.result - m.time in
    idles-clear g.X.Extra.further _ n m c.idles_to.ensures.idles (λ i some less. c.passes_idle.ensures c.if-passes_idle.true n i c.idles_to.ensures.idles some less)

use Rattle.std.proofs.Common.{◌-◌, inl, inr, arith}
use Rattle.kc_debug.specs.Stops.{states_at_once}
use Rattle.kc_debug.proofs.Begins.{activity-clear}
use Rattle.kc_debug.proofs.Idling.{idles-at-once}
use Rattle.kc_machine_spec.proofs.Calls.{always, on-fault}
use Rattle.kc_debug.proofs.Passing.{activity-reported, activity-stood, fails-first}
use Rattle.kc_debug.proofs.carrying.pass.Goals as goal

pub returns-then-now-end-clause-passed : goal.returns-then-now-end-clause-passed
returns-then-now-end-clause-passed g c =
    let m = c.args.machine.now.machine in
    let n = c.idle_end-end.result - m.time in (
      n,
      omega (arith, c.idle_end-end.ensures.within, c.requires.ahead),
      c.idle_end-end.ensures.clear,
      inl c.idle_end-end.ensures.idles,
      c.pass_idle.ensures.reported,
      on-fault c.pass_idle.result c.pass_idle.ensures.fails (idles-at-once g.X.Extra.further c.args.until n m _ _ _ c.idle_end-end.ensures.idles),
      c.pass_idle.ensures.spent,
      c.pass_idle.ensures.stood,
    )

pub returns-else-now-end-clause-passed : goal.returns-else-now-end-clause-passed
returns-else-now-end-clause-passed g c =
    let f = g.X.Extra.further in
    let m = c.args.machine.now.machine in
    let n = states_at_once c.args.until m in
    let one = c.pass_one.ensures.passed in (
      n,
      c.pass_one.ensures.few,
      activity-clear f _ n m c.requires.lives one.few,
      inr one.few,
      activity-reported f n m _ _ _ _ _ c.requires.lives one,
      on-fault c.pass_one.result c.pass_one.ensures.fault.failed (fails-first f (states_at_once c.args.until) m _ _ _ _ _ one c.requires.unbroken),
      c.pass_one.ensures.spent,
      always c.pass_one.result (activity-stood f n m _ _ _ _ _ one),
    )

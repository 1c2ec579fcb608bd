use Rattle.std.proofs.Common.{◌≡◌, ◌-◌, refl, sym, arith}
use Rattle.kc_machine_spec.specs.Machine.{current}
use Rattle.kc_machine_spec.specs.Run.{run_for}
use Rattle.kc_debug.specs.Stops.{activity_states, states_of_activities}
use Rattle.kc_debug.proofs.Begins.{states-more}
use Rattle.kc_debug.proofs.Idling.{idles-activities, idles-activity}
use Rattle.kc_debug.proofs.Passing.{activity-reported, activity-stood, fails-first}
use Rattle.kc_debug.proofs.carrying.pass_some.Goals as goal

pub returns-in-Err-clause-passed : goal.returns-in-Err-clause-passed
returns-in-Err-clause-passed g c =
    let f = g.X.Extra.further in
    let m = c.args.machine.now.machine in
    let n = c.idles_to-end.result - m.time in
    (n, states_of_activities f (c.args.left - n) (run_for f n m).machine, idles-activities f n c.args.left m c.idles_to-end.ensures.idles (omega (arith, c.now-now.ensures, c.idles_to-end.ensures.within)), c.pass_idle.ensures.reported, idles-activity f n m _ _ _ c.idles_to-end.ensures.idles c.in-Err.ensures.fails, c.pass_idle.ensures.spent, tt)

pub returns-in-Err-pass_activity-clause-passed : goal.returns-in-Err-pass_activity-clause-passed
returns-in-Err-pass_activity-clause-passed g c =
    let f = g.X.Extra.further in
    let m = c.args.machine.now.machine in
    let x = c.pass_activity.new.machine.machine in
    let passed = c.pass_activity.ensures.passed in
    ((current m).left, states_of_activities f (c.args.left - 1) x, states-more f c.args.left (c.args.left - 1) m x (omega (arith, c.requires.some)) passed.machine, activity-reported f (current m).left m _ _ x _ _ c.requires.lives passed, fails-first f activity_states m _ _ x _ _ passed c.requires.unbroken c.in-Err-pass_activity.ensures.fault.failed, c.pass_activity.ensures.spent, tt)

pub returns-in-Ok-clause-passed : goal.returns-in-Ok-clause-passed
returns-in-Ok-clause-passed g c =
    let f = g.X.Extra.further in
    let m = c.args.machine.now.machine in
    let n = c.idles_to-end.result - m.time in
    let x = c.pass_idle.new.machine.machine in
    let stood = c.in-Ok.ensures.stood in
    let fewer : c.args.left - n ≡ c.args.left - (c.idles_to-end.result - c.now-now.result) = omega (arith, c.now-now.ensures) in
    (n, states_of_activities f (c.args.left - n) (run_for f n m).machine, idles-activities f n c.args.left m c.idles_to-end.ensures.idles (omega (arith, c.now-now.ensures, c.idles_to-end.ensures.within)), c.pass_idle.ensures.reported, tt, c.pass_idle.ensures.spent, (stood, λ i. states_of_activities f (fewer i) (sym stood.machine i)))

pub returns-in-Ok-pass_activity-clause-passed : goal.returns-in-Ok-pass_activity-clause-passed
returns-in-Ok-pass_activity-clause-passed g c =
    let f = g.X.Extra.further in
    let m = c.args.machine.now.machine in
    let x = c.pass_activity.new.machine.machine in
    let passed = c.pass_activity.ensures.passed in
    ((current m).left, states_of_activities f (c.args.left - 1) x, states-more f c.args.left (c.args.left - 1) m x (omega (arith, c.requires.some)) passed.machine, activity-reported f (current m).left m _ _ x _ _ c.requires.lives passed, tt, c.pass_activity.ensures.spent, (activity-stood f (current m).left m _ _ x _ _ passed, refl))

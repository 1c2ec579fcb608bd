use Rattle.std.proofs.Common.{◌<◌, ◌≡◌, ◌+◌, ◌-◌, refl, arith}
use Rattle.kc_timers.proofs.T2Laws.{timer2_after}
use Rattle.kc_timers.proofs.timer2.Timer2.quiet_to.Goals as goal

pub returns-clause-inner : goal.returns-clause-inner
returns-clause-inner g c =
    let small : c.self.inside.value < 65536 = omega arith in
    let whole : c.args.now + (c.args.to - c.args.now) ≡ c.args.to = omega arith in
    rw (← c.self.view_is, timer2_after c.args.control c.args.now (c.args.to - c.args.now) (record { value = c.self.inside.value; captured = c.self.inside.captured }) small, whole, c.moved-self-inside.ensures, c.counts_in-counts.ensures, c.every.ensures) refl

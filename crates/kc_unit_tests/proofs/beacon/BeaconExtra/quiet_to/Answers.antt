use Rattle.std.proofs.Common.{◌-◌, sym, subst}
use Rattle.kc_span.specs.Span.{QuietFor}
use Rattle.kc_unit_tests.proofs.Blinks.{beacon_rule, beacon_held, beacon_after}
use Rattle.kc_unit_tests.proofs.beacon.BeaconExtra.quiet_to.Goals as goal

pub returns-then-not-self-clause-plain : goal.returns-then-not-self-clause-plain
returns-then-not-self-clause-plain g c =
    let quiet = subst (λ b. QuietFor beacon_rule c.args.now (c.args.to - c.args.now) (record { inner = b.inner; moves = 0 })) (sym c.self.view_is) c.requires.quiet in
    rw (c.saturating_sub-self-inside.ensures, ← c.self.view_is) (sym (beacon_after c.args.now (c.args.to - c.args.now) _ c.if-not-self.true quiet))

pub returns-else-not-self-clause-plain : goal.returns-else-not-self-clause-plain
returns-else-not-self-clause-plain g c = rw (← c.self.view_is) (sym (beacon_held c.args.now (c.args.to - c.args.now) _ c.if-not-self.false))

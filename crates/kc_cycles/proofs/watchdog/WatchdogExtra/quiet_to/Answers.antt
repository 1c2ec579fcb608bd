use Rattle.std.proofs.Common.{◌-◌, refl, sym}
use Rattle.kc_span.proofs.SpanLaws.{after-still}
use Rattle.kc_cycles.proofs.watchdog.WatchdogExtra.quiet_to.Goals as goal

pub returns-clause-plain : goal.returns-clause-plain
returns-clause-plain g c = sym (after-still _ c.args.now (c.args.to - c.args.now) (record c.args.self.now { idle = record { moves = 0 } }) (λ t d. refl))

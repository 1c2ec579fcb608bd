use Rattle.std.proofs.Common.{refl}
use Rattle.kc_cycles.proofs.Never.{never_due}
use Rattle.kc_cycles.proofs.watchdog.WatchdogExtra.due.Goals as goal

pub returns-clause-due : goal.returns-clause-due
returns-clause-due g c = never_due _ (λ t e. refl) c.args.now _ _ _ c.due.ensures.due

use Rattle.std.proofs.Common.{◌≡◌, [], length}
use Rattle.kc_monitor_forms.specs.Machines.{after_total}
use Rattle.kc_monitor_forms.proofs.after.After.over.Given as goal

abbrev pub invariant-waiting : goal.invariant-waiting
invariant-waiting l = after_total l.life l.fn.tally l.fn.self l.end [] ≡ after_total l.life l.tally l.self l.end []

abbrev pub decreases-waiting : goal.decreases-waiting
decreases-waiting l = length l.self.waiting.items

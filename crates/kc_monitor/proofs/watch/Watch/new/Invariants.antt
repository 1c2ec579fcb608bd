use Rattle.std.proofs.Common.{◌≡◌, ◌<◌, ℕ, length, get_or}
use Rattle.kc_monitor.specs.declared.monitor.Monitor.{Monitor}
use Rattle.kc_monitor.specs.Watches.{IsUnbegun}
use Rattle.kc_monitor.proofs.watch.Watch.new.Given as goal

abbrev pub invariant-loop-mark : goal.invariant-loop-mark
invariant-loop-mark l = length l.markings.items ≡ l._mark-index

abbrev pub invariant-loop-rule : goal.invariant-loop-rule
invariant-loop-rule l = record {
  many : length l.monitors.items ≡ l.rule-index;
  unbegun : (k : ℕ) → k < l.rule-index → (d : Monitor) → IsUnbegun (get_or l.monitors.items k d);
}

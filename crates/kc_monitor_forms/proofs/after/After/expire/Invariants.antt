use Rattle.std.proofs.Common.{◌≡◌, ◌≤◌, ℕ, List, length}
use Rattle.kc_monitor_forms.specs.declared.obligation.Point.{Point}
use Rattle.kc_monitor_forms.specs.Machines.{IsWaiting, IsOrderedFrom, after_total}
use Rattle.kc_monitor_forms.proofs.after.After.expire.Given as goal

abbrev pub invariant-late : goal.invariant-late
invariant-late l = record {
  waiting : IsWaiting l.life l.initial.tally l.initial.self l.at → IsWaiting l.life l.tally l.self l.at;
  total : IsWaiting l.life l.initial.tally l.initial.self l.at → (end : ℕ) (points : List Point) → l.at ≤ end → IsOrderedFrom l.at points →
      after_total l.life l.initial.tally l.initial.self end points ≡ after_total l.life l.tally l.self end points;
}

abbrev pub decreases-late : goal.decreases-late
decreases-late l = length l.self.waiting.items

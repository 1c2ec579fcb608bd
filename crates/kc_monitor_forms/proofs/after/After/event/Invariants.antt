use Rattle.std.proofs.Common.{◌≡◌, ◌∷◌, ℕ, List, None, true, length}
use Rattle.kc_monitor_forms.specs.declared.obligation.Point.{Point}
use Rattle.kc_monitor_forms.specs.Machines.{IsWaiting, after_total}
use Rattle.kc_monitor_forms.proofs.after.After.event.Given as goal

abbrev pub invariant-answers : goal.invariant-answers
invariant-answers l = record {
  waiting : IsWaiting l.life l.fn.tally l.fn.self l.at → IsWaiting l.life l.tally l.self l.at;
  late : l.self.late ≡ None;
  total : IsWaiting l.life l.fn.tally l.fn.self l.at → (end : ℕ) (points : List Point) (p : Point) → p.at ≡ l.at → p.event ≡ true →
      after_total l.life l.fn.tally l.fn.self end (p ∷ points) ≡ after_total l.life l.tally l.self end (p ∷ points);
}

abbrev pub decreases-answers : goal.decreases-answers
decreases-answers l = length l.self.waiting.items

use Rattle.std.proofs.Common.{◌≡◌, ℕ, ◌<◌, ◌≤◌, true}
use Rattle.kc_bound_requests.specs.Latency.{is_most_at}
use Rattle.kc_bound_requests.proofs.latency_checking.all_most.Given as goal

abbrev pub invariant-loop-at : goal.invariant-loop-at
invariant-loop-at l = (a : ℕ) → 0x2000 ≤ a → a < l.at → is_most_at l.image l.notes l.from l.c l.c.most a ≡ true

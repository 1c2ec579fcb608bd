use Rattle.std.proofs.Common.{◌≡◌, ℕ, ◌<◌, ◌≤◌, true}
use Rattle.kc_bound_requests.specs.Closed.{is_closed_at}
use Rattle.kc_bound_requests.proofs.checking.all_closed.Given as goal

abbrev pub invariant-loop-at : goal.invariant-loop-at
invariant-loop-at l = (a : ℕ) → 0x2000 ≤ a → a < l.at → is_closed_at l.image l.notes l.from l.c a ≡ true

use Rattle.std.proofs.Common.{◌≡◌, ℕ, ◌<◌, ◌≤◌, false}
use Rattle.kc_bound_requests.specs.Closed.{is_open_at}
use Rattle.kc_bound_requests.proofs.checking.least_open.Given as goal

abbrev pub invariant-loop-at : goal.invariant-loop-at
invariant-loop-at l = (a : ℕ) → 0x2000 ≤ a → a < l.at → is_open_at l.image l.notes l.from l.c a ≡ false

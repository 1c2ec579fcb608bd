use Rattle.std.proofs.Common.{◌≡◌, ℕ, ◌<◌, ◌≤◌, true}
use Rattle.kc_bound_requests.specs.Latency.{is_sound_at}
use Rattle.kc_bound_requests.proofs.latency_checking.all_sound.Given as goal

abbrev pub invariant-loop-at : goal.invariant-loop-at
invariant-loop-at l = (a : ℕ) → 0x2000 ≤ a → a < l.at → is_sound_at l.image l.notes l.from l.c a ≡ true

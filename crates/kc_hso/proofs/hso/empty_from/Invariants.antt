use Rattle.std.proofs.Common.{◌≡◌, ℕ, ◌+◌, ◌%◌, ◌<◌, ◌≤◌, false, None}
use Rattle.std.specs.Prelude.{slice_index_or, is_none}
use Rattle.kc_hso.proofs.hso.empty_from.Given as goal

abbrev pub invariant-loop-ahead : goal.invariant-loop-ahead
invariant-loop-ahead l = (t : ℕ) → l.now ≤ t → t < l.now + l.ahead → is_none (slice_index_or l.slots (t % 8) None) ≡ false

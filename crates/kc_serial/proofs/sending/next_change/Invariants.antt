use Rattle.std.proofs.Common.{◌≡◌, ℕ, ◌<◌, ◌≤◌, true}
use Rattle.kc_serial.specs.Quiet.{keeps_level}
use Rattle.kc_serial.proofs.sending.next_change.Given as goal

abbrev pub invariant-loop-k : goal.invariant-loop-k
invariant-loop-k l = (i : ℕ) → l.from ≤ i → i < l.k → keeps_level l.byte i ≡ true

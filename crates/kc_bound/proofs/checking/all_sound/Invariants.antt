use Rattle.std.proofs.Common.{◌≡◌, ℕ, ◌+◌, ◌<◌, true}
use Rattle.kc_bound.specs.Certified.{standing_at, is_sound_at}
use Rattle.kc_bound.proofs.checking.all_sound.Given as goal

abbrev pub invariant-loop-i : goal.invariant-loop-i
invariant-loop-i l = (k : ℕ) → k < l.i → is_sound_at l.image l.notes l.from l.c (0x2000 + k) (standing_at l.c (0x2000 + k)) ≡ true

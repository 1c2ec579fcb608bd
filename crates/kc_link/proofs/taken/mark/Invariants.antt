use Rattle.std.proofs.Common.{◌≡◌, ℕ, ◌-◌, ◌<◌, ◌≤◌, false, ◌&&◌, ◌||◌, ltb, leb, get_or, length}
use Rattle.kc_link.proofs.taken.mark.Given as goal

abbrev pub invariant-loop-at : goal.invariant-loop-at
invariant-loop-at l = record {
  size : length l.taken ≡ 65536;
  from : l.from ≤ l.at;
  within : l.at ≤ l.end;
  marks : (a : ℕ) → a < 65536 → get_or l.taken a false ≡ (get_or l.initial.taken a false || (leb l.from a && ltb a l.at));
}

abbrev pub decreases-loop-at : goal.decreases-loop-at
decreases-loop-at l = l.end - l.at

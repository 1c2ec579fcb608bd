use Rattle.std.proofs.Common.{◌≡◌, ◌≤◌, ◌-◌, length, take}
use Rattle.kc_macro_input.proofs.piece.are_same.Given as goal

abbrev pub invariant-loop-at : goal.invariant-loop-at
invariant-loop-at l = record {
  within : l.at ≤ length l.first;
  kept : take l.at l.first ≡ take l.at l.second;
}

abbrev pub decreases-loop-at : goal.decreases-loop-at
decreases-loop-at l = length l.first - l.at

use Rattle.std.proofs.Common.{◌≡◌, ◌-◌, ◌++◌, length, take, drop}
use Rattle.kc_link_place.specs.Gaps.{cut}
use Rattle.kc_link_place.proofs.gaps.cut.Given as goal

abbrev pub invariant-loop-i : goal.invariant-loop-i
invariant-loop-i l = record {
  goes_on : take l.i l.gaps.items ++ cut (drop l.i l.gaps.items) l.at l.count ≡ cut l.initial.gaps.items l.at l.count;
  same : l.gaps.items ≡ l.initial.gaps.items;
}

abbrev pub decreases-loop-i : goal.decreases-loop-i
decreases-loop-i l = length l.gaps.items - l.i

use Rattle.std.proofs.Common.{◌≡◌, ◌+◌, ◌++◌, length}
use Rattle.kc_link_place.specs.Stands.{fixed_in}
use Rattle.kc_link_place.proofs.pieces.add_fixed.Given as goal

abbrev pub invariant-loop-left : goal.invariant-loop-left
invariant-loop-left l = record {
  goes_on : l.stands.items ++ fixed_in l.index l.number l.left ≡ l.initial.stands.items ++ fixed_in l.index 0 l.fn.segments;
  count : l.number + length l.left ≡ length l.fn.segments;
}

abbrev pub decreases-loop-left : goal.decreases-loop-left
decreases-loop-left l = length l.left

use Rattle.std.proofs.Common.{◌≡◌, ◌+◌, ◌++◌, length}
use Rattle.kc_link_place.specs.Placing.{places_in}
use Rattle.kc_link_place.proofs.places.places_in.Given as goal

abbrev pub invariant-loop-left : goal.invariant-loop-left
invariant-loop-left l = record {
  goes_on : l.items.items ++ places_in l.puts l.stack l.index l.number l.left ≡ places_in l.puts l.stack l.index 0 l.fn.segments;
  count : l.number + length l.left ≡ length l.fn.segments;
}

abbrev pub decreases-loop-left : goal.decreases-loop-left
decreases-loop-left l = length l.left

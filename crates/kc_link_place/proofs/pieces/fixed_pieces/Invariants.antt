use Rattle.std.proofs.Common.{◌≡◌, ◌+◌, ◌++◌, length}
use Rattle.kc_link_place.specs.Stands.{fixed_from}
use Rattle.kc_link_place.proofs.pieces.fixed_pieces.Given as goal

abbrev pub invariant-loop-left : goal.invariant-loop-left
invariant-loop-left l = record {
  goes_on : l.stands.items ++ fixed_from l.index l.left ≡ fixed_from 0 l.fn.modules;
  count : l.index + length l.left ≡ length l.fn.modules;
}

abbrev pub decreases-loop-left : goal.decreases-loop-left
decreases-loop-left l = length l.left

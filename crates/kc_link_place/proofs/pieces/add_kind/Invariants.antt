use Rattle.std.proofs.Common.{◌≡◌, ◌+◌, ◌++◌, length}
use Rattle.kc_link_place.specs.Stands.{wanted_from}
use Rattle.kc_link_place.proofs.pieces.add_kind.Given as goal

abbrev pub invariant-loop-left : goal.invariant-loop-left
invariant-loop-left l = record {
  goes_on : l.pieces.items ++ wanted_from l.kind l.index l.left ≡ l.initial.pieces.items ++ wanted_from l.kind 0 l.fn.modules;
  count : l.index + length l.left ≡ length l.fn.modules;
}

abbrev pub decreases-loop-left : goal.decreases-loop-left
decreases-loop-left l = length l.left

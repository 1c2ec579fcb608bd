use Rattle.std.proofs.Common.{◌≡◌, ◌+◌, ◌++◌, length}
use Rattle.kc_link_place.specs.Names.{Knows}
use Rattle.kc_link_place.specs.Placing.{bases_from}
use Rattle.kc_link_place.proofs.places.all_bases.Given as goal

abbrev pub invariant-loop-left : goal.invariant-loop-left
invariant-loop-left l = record {
  goes_on : Knows l.names.defining_modules.entries l.fn.modules →
      l.bases.items ++ bases_from l.fn.modules (record { pieces = l.pieces; after_stack = l.after_stack }) l.index l.left
      ≡ bases_from l.fn.modules (record { pieces = l.pieces; after_stack = l.after_stack }) 0 l.fn.modules;
  count : l.index + length l.left ≡ length l.fn.modules;
}

abbrev pub decreases-loop-left : goal.decreases-loop-left
decreases-loop-left l = length l.left

use Rattle.std.proofs.Common.{◌≡◌, length}
use Rattle.kc_link_place.specs.BaseLists.{bases_in}
use Rattle.kc_link_place.specs.Filled.{unfit_in}
use Rattle.kc_link_place.proofs.filled.unfit_among.Given as goal

abbrev pub invariant-loop-left : goal.invariant-loop-left
invariant-loop-left l = unfit_in (bases_in l.bases) l.left ≡ unfit_in (bases_in l.fn.bases) l.fn.fixups

abbrev pub decreases-loop-left : goal.decreases-loop-left
decreases-loop-left l = length l.left

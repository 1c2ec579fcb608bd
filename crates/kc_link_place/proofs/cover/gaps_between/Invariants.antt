use Rattle.kc_link_place.proofs.Covers.{Below}
use Rattle.kc_link_place.proofs.cover.gaps_between.Given as goal

abbrev pub invariant-loop-address : goal.invariant-loop-address
invariant-loop-address l = Below l.cover l.gaps.items l.start l.address

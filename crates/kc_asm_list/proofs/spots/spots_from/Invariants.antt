use Rattle.std.proofs.Common.{◌≡◌, ◌++◌, length}
use Rattle.std.specs.Prelude.{All}
use Rattle.kc_asm_layout.specs.Bounds.{IsBounded}
use Rattle.kc_asm_list.specs.Spots as spec
use Rattle.kc_asm_list.proofs.spots.spots_from.Given as goal

abbrev pub invariant-loop-left : goal.invariant-loop-left
invariant-loop-left l = record {
  goes_on : l.spots.items ++ spec.spots_from l.left l.deep l.ahead l.standing ≡ spec.spots_from l.text l.depths l.size_records l.locations;
  bounded : All IsBounded l.ahead;
}

abbrev pub decreases-loop-left : goal.decreases-loop-left
decreases-loop-left l = length l.left

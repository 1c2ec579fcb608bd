use Rattle.std.proofs.Common.{◌≡◌, ◌+◌, length}
use Rattle.kc_link_place.specs.BaseLists.{bases_in}
use Rattle.kc_kit_answer.specs.Cover.{code_base_from}
use Rattle.kc_kit_answer.proofs.cover.base_among.Given as goal

abbrev pub invariant-loop-left : goal.invariant-loop-left
invariant-loop-left l = record {
  goes_on : code_base_from l.number l.left (bases_in l.bases) ≡ code_base_from 0 l.fn.segments (bases_in l.fn.bases);
  count : l.number + length l.left ≡ length l.fn.segments;
}

abbrev pub decreases-loop-left : goal.decreases-loop-left
decreases-loop-left l = length l.left

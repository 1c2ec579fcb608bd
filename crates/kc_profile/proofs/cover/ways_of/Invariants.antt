use Rattle.std.proofs.Common.{◌≡◌, ◌+◌, ◌*◌, ◌≤◌, length}
use Rattle.std.specs.Prelude.{count_by}
use Rattle.kc_profile.specs.Cover as spec
use Rattle.kc_profile.proofs.cover.ways_of.Given as goal

abbrev pub invariant-loop-left : goal.invariant-loop-left
invariant-loop-left l = record {
  found : l.tally.found + length (spec.all_ways l.statistics l.left) ≡ length (spec.all_ways l.statistics l.fn.instructions);
  hit : l.tally.hit + count_by spec.is_some_times (spec.all_ways l.statistics l.left) ≡ count_by spec.is_some_times (spec.all_ways l.statistics l.fn.instructions);
  part : l.tally.hit ≤ l.tally.found;
  few : l.tally.found + 2 * length l.left ≤ 2 * length l.fn.instructions;
}

abbrev pub decreases-loop-left : goal.decreases-loop-left
decreases-loop-left l = length l.left

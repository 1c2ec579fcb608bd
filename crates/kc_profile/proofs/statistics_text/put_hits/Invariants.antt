use Rattle.std.proofs.Common.{◌≡◌, ◌+◌, ◌++◌, length}
use Rattle.kc_profile.specs.StatisticsText as spec
use Rattle.kc_profile.proofs.statistics_text.put_hits.Given as goal

abbrev pub invariant-loop-left : goal.invariant-loop-left
invariant-loop-left l = record {
  goes_on : l.text.items ++ spec.hit_lines l.addr l.left ≡ l.initial.text.items ++ spec.hit_lines 0 l.fn.hits;
  count : l.addr + length l.left ≡ length l.fn.hits;
}

abbrev pub decreases-loop-left : goal.decreases-loop-left
decreases-loop-left l = length l.left

use Rattle.std.proofs.Common.{◌≡◌, ◌+◌, ◌++◌, length}
use Rattle.kc_profile.specs.StatisticsText as spec
use Rattle.kc_profile.proofs.statistics_text.put_services.Given as goal

abbrev pub invariant-loop-left : goal.invariant-loop-left
invariant-loop-left l = record {
  goes_on : l.text.items ++ spec.served_lines l.n l.scope l.left ≡ l.initial.text.items ++ spec.served_lines 0 l.scope l.fn.waits;
  count : l.n + length l.left ≡ length l.fn.waits;
}

abbrev pub decreases-loop-left : goal.decreases-loop-left
decreases-loop-left l = length l.left

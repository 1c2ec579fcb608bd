use Rattle.std.proofs.Common.{◌≡◌, ◌+◌, ◌++◌, length}
use Rattle.kc_profile.specs.Text as spec
use Rattle.kc_profile.proofs.reporting.put_all_numbered.Given as goal

abbrev pub invariant-loop-left : goal.invariant-loop-left
invariant-loop-left l = record {
  goes_on : l.text.items ++ spec.numbered_lines l.word l.number l.left ≡ l.initial.text.items ++ spec.numbered_lines l.word 0 l.fn.all;
  count : l.number + length l.left ≡ length l.fn.all;
}

abbrev pub decreases-loop-left : goal.decreases-loop-left
decreases-loop-left l = length l.left

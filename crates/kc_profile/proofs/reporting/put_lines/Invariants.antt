use Rattle.std.proofs.Common.{◌≡◌, ◌++◌, ◌≤◌, length}
use Rattle.kc_profile.specs.Text as spec
use Rattle.kc_profile.proofs.reporting.put_lines.Given as goal

abbrev pub invariant-loop-left : goal.invariant-loop-left
invariant-loop-left l = record {
  goes_on : l.text.items ++ spec.line_lines l.at l.from l.left ≡ l.initial.text.items ++ spec.line_lines l.at (spec.next_address l.fn.entries) l.fn.entries;
  within : l.from ≤ 65536;
}

abbrev pub decreases-loop-left : goal.decreases-loop-left
decreases-loop-left l = length l.left

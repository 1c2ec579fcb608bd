use Rattle.std.proofs.Common.{◌≡◌, ◌++◌, length}
use Rattle.kc_link.specs.LineMap.{lines_by, AllLinesStand}
use Rattle.kc_link.proofs.lines.all_lines.Given as goal

abbrev pub invariant-loop-left : goal.invariant-loop-left
invariant-loop-left l = record {
  goes_on : l.entries.items ++ lines_by l.left l.ahead ≡ lines_by l.fn.modules l.fn.bases;
  stand : AllLinesStand l.left l.ahead;
}

abbrev pub decreases-loop-left : goal.decreases-loop-left
decreases-loop-left l = length l.left

use Rattle.std.proofs.Common.{◌≡◌, ◌++◌, length}
use Rattle.kc_trace.specs.Tables.{level_in}
use Rattle.kc_vcd.specs.Dump.{start_lines}
use Rattle.kc_vcd.proofs.shown.put_starts.Given as goal

abbrev pub invariant-loop-left : goal.invariant-loop-left
invariant-loop-left l = l.text.items ++ start_lines (level_in l.start) l.left ≡ l.initial.text.items ++ start_lines (level_in l.start) l.variables

abbrev pub decreases-loop-left : goal.decreases-loop-left
decreases-loop-left l = length l.left

use Rattle.std.proofs.Common.{◌≡◌, ◌++◌, length}
use Rattle.kc_kit_bound.specs.Reports.{loops_text}
use Rattle.kc_kit_bound.proofs.reports.put_loops.Given as goal

abbrev pub invariant-loop-loops_left : goal.invariant-loop-loops_left
invariant-loop-loops_left l = l.text.items ++ loops_text l.loops_left l.prices_left ≡ l.fn.text.items ++ loops_text l.fn.loops l.fn.prices

abbrev pub decreases-loop-loops_left : goal.decreases-loop-loops_left
decreases-loop-loops_left l = length l.loops_left

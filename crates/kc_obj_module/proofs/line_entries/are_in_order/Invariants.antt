use Rattle.std.proofs.Common.{◌≡◌, length}
use Rattle.kc_obj_module.specs.LineEntries.{lines_in_order}
use Rattle.kc_obj_module.proofs.line_entries.are_in_order.Given as goal

abbrev pub invariant-loop-left : goal.invariant-loop-left
invariant-loop-left l = lines_in_order l.left ≡ lines_in_order l.fn.lines

abbrev pub decreases-loop-left : goal.decreases-loop-left
decreases-loop-left l = length l.left

use Rattle.std.proofs.Common.{◌≡◌, length}
use Rattle.kc_obj_module.specs.Fixups.{fixups_in_order}
use Rattle.kc_obj_module.proofs.fixups.are_in_order.Given as goal

abbrev pub invariant-loop-left : goal.invariant-loop-left
invariant-loop-left l = fixups_in_order l.left ≡ fixups_in_order l.fn.fixups

abbrev pub decreases-loop-left : goal.decreases-loop-left
decreases-loop-left l = length l.left

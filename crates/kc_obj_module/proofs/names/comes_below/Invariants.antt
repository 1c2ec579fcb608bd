use Rattle.std.proofs.Common.{◌≡◌, length}
use Rattle.kc_obj_module.specs.Names.{is_below}
use Rattle.kc_obj_module.proofs.names.comes_below.Given as goal

abbrev pub invariant-loop-left : goal.invariant-loop-left
invariant-loop-left l = is_below l.left l.right ≡ is_below l.fn.name l.fn.other

abbrev pub decreases-loop-left : goal.decreases-loop-left
decreases-loop-left l = length l.left

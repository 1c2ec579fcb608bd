use Rattle.std.proofs.Common.{◌≡◌, length}
use Rattle.std.specs.List.{list_all}
use Rattle.kc_obj_module.specs.Widths.{value_fits}
use Rattle.kc_obj_module.proofs.widths.publics.Given as goal

abbrev pub invariant-loop-left : goal.invariant-loop-left
invariant-loop-left l = list_all value_fits l.left ≡ list_all value_fits l.fn.publics

abbrev pub decreases-loop-left : goal.decreases-loop-left
decreases-loop-left l = length l.left

use Rattle.std.proofs.Common.{◌≡◌, length}
use Rattle.std.specs.List.{list_all}
use Rattle.kc_obj_module.specs.Widths.{length_fits}
use Rattle.kc_obj_module.proofs.widths.segments.Given as goal

abbrev pub invariant-loop-left : goal.invariant-loop-left
invariant-loop-left l = list_all length_fits l.left ≡ list_all length_fits l.fn.segments

abbrev pub decreases-loop-left : goal.decreases-loop-left
decreases-loop-left l = length l.left

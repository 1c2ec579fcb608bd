use Rattle.std.proofs.Common.{◌≡◌, length}
use Rattle.kc_obj_module.specs.Contents.{contents_in_order}
use Rattle.kc_obj_module.proofs.contents.are_in_order.Given as goal

abbrev pub invariant-loop-left : goal.invariant-loop-left
invariant-loop-left l = contents_in_order l.left ≡ contents_in_order l.fn.contents

abbrev pub decreases-loop-left : goal.decreases-loop-left
decreases-loop-left l = length l.left

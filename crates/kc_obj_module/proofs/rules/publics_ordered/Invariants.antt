use Rattle.std.proofs.Common.{◌≡◌, length}
use Rattle.kc_obj_module.specs.Rules.{publics_in_order}
use Rattle.kc_obj_module.proofs.rules.publics_ordered.Given as goal

abbrev pub invariant-loop-left : goal.invariant-loop-left
invariant-loop-left l = publics_in_order l.left ≡ publics_in_order l.fn.publics

abbrev pub decreases-loop-left : goal.decreases-loop-left
decreases-loop-left l = length l.left

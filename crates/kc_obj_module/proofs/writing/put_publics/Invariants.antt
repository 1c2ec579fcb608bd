use Rattle.std.proofs.Common.{◌≡◌, ◌++◌, length}
use Rattle.std.specs.List.{flat_map}
use Rattle.kc_obj_module.specs.Spelling.{given_record}
use Rattle.kc_obj_module.proofs.writing.put_publics.Given as goal

abbrev pub invariant-loop-left : goal.invariant-loop-left
invariant-loop-left l = l.out.items ++ flat_map given_record l.left ≡ l.initial.out.items ++ flat_map given_record l.fn.publics

abbrev pub decreases-loop-left : goal.decreases-loop-left
decreases-loop-left l = length l.left

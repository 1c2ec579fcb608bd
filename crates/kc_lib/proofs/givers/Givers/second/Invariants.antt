use Rattle.std.proofs.Common.{◌≡◌, List, length}
use Rattle.kc_obj_module.specs.Object.{Object}
use Rattle.kc_lib.specs.Names.{second_of}
use Rattle.kc_lib.specs.Givers.{Knows}
use Rattle.kc_lib.proofs.givers.Givers.second.Given as goal

abbrev pub invariant-loop-left : goal.invariant-loop-left
invariant-loop-left l = (before : List Object) → Knows l.self.numbers.entries before → second_of before l.left ≡ second_of before l.fn.publics

abbrev pub decreases-loop-left : goal.decreases-loop-left
decreases-loop-left l = length l.left

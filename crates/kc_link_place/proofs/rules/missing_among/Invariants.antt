use Rattle.std.proofs.Common.{◌≡◌, List, length}
use Rattle.kc_obj_module.specs.Object.{Object}
use Rattle.kc_link_place.specs.Names.{first_missing, Knows}
use Rattle.kc_link_place.proofs.rules.missing_among.Given as goal

abbrev pub invariant-loop-left : goal.invariant-loop-left
invariant-loop-left l = (modules : List Object) → Knows l.names.defining_modules.entries modules → first_missing modules l.stack l.left ≡ first_missing modules l.stack l.fn.externals

abbrev pub decreases-loop-left : goal.decreases-loop-left
decreases-loop-left l = length l.left

use Rattle.std.proofs.Common.{◌≡◌, length}
use Rattle.kc_link_place.specs.Names.{unresolved, Knows}
use Rattle.kc_link_place.proofs.rules.unresolved.Given as goal

abbrev pub invariant-loop-left : goal.invariant-loop-left
invariant-loop-left l = Knows l.names.defining_modules.entries l.fn.modules → unresolved l.fn.modules l.stack l.left ≡ unresolved l.fn.modules l.stack l.fn.modules

abbrev pub decreases-loop-left : goal.decreases-loop-left
decreases-loop-left l = length l.left

use Rattle.std.proofs.Common.{◌≡◌, List, length}
use Rattle.kc_obj_module.specs.Object.{Object}
use Rattle.kc_lib.specs.Givers.{Knows}
use Rattle.kc_lib.specs.Standings.{called_by}
use Rattle.kc_lib.proofs.taking.DefiningModules.call_by.Given as goal

abbrev pub invariant-loop-left : goal.invariant-loop-left
invariant-loop-left l = (modules members : List Object) → Knows l.self.given.numbers.entries modules → Knows l.self.held.numbers.entries members
    → called_by modules members l.left l.standings ≡ called_by modules members l.fn.callers l.initial.standings

abbrev pub decreases-loop-left : goal.decreases-loop-left
decreases-loop-left l = length l.left

use Rattle.std.proofs.Common.{List}
use Rattle.kc_obj_module.specs.Object.{Object}
use Rattle.kc_lib.specs.Names.{GivenOnce}
use Rattle.kc_lib.specs.Givers.{Knows}
use Rattle.kc_lib.specs.Standings.{IsUnderWay, work}
use Rattle.kc_lib.proofs.taking.DefiningModules.settle.Given as goal

abbrev pub invariant-loop-number : goal.invariant-loop-number
invariant-loop-number l = (modules : List Object) → Knows l.self.given.numbers.entries modules → Knows l.self.held.numbers.entries l.members → GivenOnce l.members
    → IsUnderWay modules l.members l.initial.standings → IsUnderWay modules l.members l.standings

abbrev pub decreases-loop-number : goal.decreases-loop-number
decreases-loop-number l = work l.standings

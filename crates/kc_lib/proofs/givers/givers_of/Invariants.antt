use Rattle.std.proofs.Common.{take}
use Rattle.kc_lib.specs.Givers.{Knows}
use Rattle.kc_lib.proofs.givers.givers_of.Given as goal

abbrev pub invariant-loop-number : goal.invariant-loop-number
invariant-loop-number l = Knows l.givers.numbers.entries (take l.number l.modules)

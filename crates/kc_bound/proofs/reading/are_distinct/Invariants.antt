use Rattle.std.proofs.Common.{◌≡◌, length}
use Rattle.kc_bound.specs.Reading.{are_distinct}
use Rattle.kc_bound.proofs.reading.are_distinct.Given as goal

abbrev pub invariant-loop-rest : goal.invariant-loop-rest
invariant-loop-rest l = are_distinct l.rest ≡ are_distinct l.fn.addresses

abbrev pub decreases-loop-rest : goal.decreases-loop-rest
decreases-loop-rest l = length l.rest

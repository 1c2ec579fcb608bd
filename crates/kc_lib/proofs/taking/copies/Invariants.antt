use Rattle.std.proofs.Common.{◌≡◌, ◌++◌, drop}
use Rattle.kc_lib.specs.Taking.{chosen, chosen_from}
use Rattle.kc_lib.specs.Standings.{is_in}
use Rattle.kc_lib.proofs.taking.copies.Given as goal

abbrev pub invariant-loop-number : goal.invariant-loop-number
invariant-loop-number l = l.taken.items ++ chosen_from l.number (is_in l.standings) (drop l.number l.members) ≡ chosen (is_in l.standings) l.members

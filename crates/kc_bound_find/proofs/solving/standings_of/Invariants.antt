use Rattle.std.proofs.Common.{◌≡◌, ◌-◌, vec_len}
use Rattle.kc_bound_find.proofs.solving.standings_of.Given as goal

abbrev pub invariant-loop-at : goal.invariant-loop-at
invariant-loop-at l = vec_len l.standings ≡ l.at - 0x2000

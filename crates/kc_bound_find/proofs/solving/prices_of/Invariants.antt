use Rattle.std.proofs.Common.{◌≡◌, vec_len}
use Rattle.kc_bound_find.proofs.solving.prices_of.Given as goal

abbrev pub invariant-loop-k : goal.invariant-loop-k
invariant-loop-k l = vec_len l.prices ≡ l.k

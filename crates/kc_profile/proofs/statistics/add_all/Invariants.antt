use Rattle.std.proofs.Common.{◌+◌}
use Rattle.kc_profile.proofs.Added.{HaveAdded}
use Rattle.kc_profile.proofs.statistics.add_all.Given as goal

abbrev pub invariant-loop-i : goal.invariant-loop-i
invariant-loop-i l = HaveAdded (λ n m. n + m) l.i l.fn.numbers l.more l.numbers

use Rattle.kc_profile.specs.Waits.{added}
use Rattle.kc_profile.proofs.Added.{HaveAdded}
use Rattle.kc_profile.proofs.statistics.add_waits.Given as goal

abbrev pub invariant-loop-n : goal.invariant-loop-n
invariant-loop-n l = HaveAdded added l.n l.fn.waits l.later l.waits

use Rattle.kc_profile.proofs.Added.{SeenTo}
use Rattle.kc_profile.proofs.statistics.see_all.Given as goal

abbrev pub invariant-loop-n : goal.invariant-loop-n
invariant-loop-n l = SeenTo l.n l.life l.sight l.fn.waits l.waits

use Rattle.kc_kit_verdict.proofs.WatchLemmas.{HasComeTo}
use Rattle.kc_kit_verdict.proofs.watching.watch_run.Given as goal

abbrev pub invariant-loop : goal.invariant-loop
invariant-loop g l = HasComeTo l.initial.lives l.initial.watch l.lives l.watch

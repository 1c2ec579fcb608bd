use Rattle.kc_bound_find.proofs.Refusing.{IsSoFar}
use Rattle.kc_bound_find.proofs.refusal.each_once.Given as goal

abbrev pub invariant-loop-refusal : goal.invariant-loop-refusal
invariant-loop-refusal l = IsSoFar l.refused l.refusal-index l.next l.found.items

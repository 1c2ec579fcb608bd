use Rattle.std.proofs.Common.{length}
use Rattle.kc_kit_verdict.proofs.VerdictLemmas.{IsSoFar}
use Rattle.kc_kit_verdict.proofs.verdict.verdict_of.Given as goal

abbrev pub invariant-loop-left : goal.invariant-loop-left
invariant-loop-left l = IsSoFar l.name l.text l.fn.rules l.fn.monitors l.left l.ahead l.verdict

abbrev pub decreases-loop-left : goal.decreases-loop-left
decreases-loop-left l = length l.left

use Rattle.std.proofs.Common.{◌≡◌, ◌++◌}
use Rattle.kc_kit_answer.specs.Cover.{instructions_from}
use Rattle.kc_kit_answer.proofs.cover.add_from.Given as goal

abbrev pub invariant-loop-left : goal.invariant-loop-left
invariant-loop-left l = l.own.items ++ instructions_from l.left l.line l.image l.at l.end ≡ l.initial.own.items ++ instructions_from l.fn.most l.line l.image l.fn.from l.end

abbrev pub decreases-loop-left : goal.decreases-loop-left
decreases-loop-left l = l.left

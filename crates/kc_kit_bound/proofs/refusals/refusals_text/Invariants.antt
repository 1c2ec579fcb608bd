use Rattle.std.proofs.Common.{◌≡◌, ◌++◌, length}
use Rattle.kc_kit_bound.specs.Refusals.{refusals_text}
use Rattle.kc_kit_bound.proofs.refusals.refusals_text.Given as goal

abbrev pub invariant-loop-left : goal.invariant-loop-left
invariant-loop-left l = l.text.items ++ refusals_text l.left ≡ refusals_text l.fn.refusals

abbrev pub decreases-loop-left : goal.decreases-loop-left
decreases-loop-left l = length l.left

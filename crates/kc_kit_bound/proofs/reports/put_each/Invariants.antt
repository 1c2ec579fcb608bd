use Rattle.std.proofs.Common.{◌≡◌, ◌++◌, length}
use Rattle.std.specs.Prelude.{flat_map}
use Rattle.kc_kit_bound.specs.Texts.{at_text}
use Rattle.kc_kit_bound.proofs.reports.put_each.Given as goal

abbrev pub invariant-loop-left : goal.invariant-loop-left
invariant-loop-left l = l.text.items ++ flat_map at_text l.left ≡ l.fn.text.items ++ flat_map at_text l.fn.addresses

abbrev pub decreases-loop-left : goal.decreases-loop-left
decreases-loop-left l = length l.left

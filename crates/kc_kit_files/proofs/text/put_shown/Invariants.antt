use Rattle.std.proofs.Common.{◌≡◌, ◌++◌, length}
use Rattle.kc_kit_files.specs.Shown.{shown}
use Rattle.kc_kit_files.proofs.text.put_shown.Given as goal

abbrev pub invariant-loop-left : goal.invariant-loop-left
invariant-loop-left l = l.diagnostic.items ++ shown l.left ≡ l.initial.diagnostic.items ++ shown l.text

abbrev pub decreases-loop-left : goal.decreases-loop-left
decreases-loop-left l = length l.left

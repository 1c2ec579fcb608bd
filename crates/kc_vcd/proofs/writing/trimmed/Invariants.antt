use Rattle.std.proofs.Common.{◌≡◌, length}
use Rattle.kc_vcd.specs.Dump.{significant}
use Rattle.kc_vcd.proofs.writing.trimmed.Given as goal

abbrev pub invariant-loop-left : goal.invariant-loop-left
invariant-loop-left l = significant l.left ≡ significant l.digits

abbrev pub decreases-loop-left : goal.decreases-loop-left
decreases-loop-left l = length l.left

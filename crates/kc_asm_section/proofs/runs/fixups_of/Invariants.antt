use Rattle.std.proofs.Common.{◌≡◌, ◌++◌, length}
use Rattle.kc_asm_section.specs.Runs.{fixups_of}
use Rattle.kc_asm_section.proofs.runs.fixups_of.Given as goal

abbrev pub invariant-loop-left : goal.invariant-loop-left
invariant-loop-left l = l.fixups.items ++ fixups_of l.left ≡ fixups_of l.fn.puts

abbrev pub decreases-loop-left : goal.decreases-loop-left
decreases-loop-left l = length l.left

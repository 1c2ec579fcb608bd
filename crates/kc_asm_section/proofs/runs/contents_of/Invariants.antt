use Rattle.std.proofs.Common.{◌≡◌, ◌++◌, [], length}
use Rattle.kc_asm_section.specs.Runs.{runs}
use Rattle.kc_asm_section.proofs.runs.contents_of.Given as goal

abbrev pub invariant-loop-left : goal.invariant-loop-left
invariant-loop-left l = l.contents.items ++ runs l.run.bytes.items l.run.piece l.run.offset l.left ≡ runs [] 0 0 l.fn.puts

abbrev pub decreases-loop-left : goal.decreases-loop-left
decreases-loop-left l = length l.left

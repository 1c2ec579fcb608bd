use Rattle.std.proofs.Common.{◌≡◌, ◌++◌, length}
use Rattle.kc_asm_list.specs.Listed.{instructions_of}
use Rattle.kc_asm_list.proofs.listed.of_instructions.Given as goal

abbrev pub invariant-loop-left : goal.invariant-loop-left
invariant-loop-left l = l.own.items ++ instructions_of l.left l.beside ≡ instructions_of l.spots l.stmts

abbrev pub decreases-loop-left : goal.decreases-loop-left
decreases-loop-left l = length l.left

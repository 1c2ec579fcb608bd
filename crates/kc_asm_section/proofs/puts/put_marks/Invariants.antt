use Rattle.std.proofs.Common.{◌≡◌, ◌++◌, map, length}
use Rattle.kc_asm_section.specs.Puts.{entry_of}
use Rattle.kc_asm_section.proofs.puts.put_marks.Given as goal

abbrev pub invariant-loop-left : goal.invariant-loop-left
invariant-loop-left l = l.lines.items ++ map (entry_of l.piece) l.left ≡ l.initial.lines.items ++ map (entry_of l.piece) l.part.marks

abbrev pub decreases-loop-left : goal.decreases-loop-left
decreases-loop-left l = length l.left

use Rattle.std.proofs.Common.{◌≡◌, ◌++◌, [], length}
use Rattle.kc_obj_module.specs.Spelling.{block_records}
use Rattle.kc_obj_module.proofs.writing.put_lines.Given as goal

abbrev pub invariant-loop-left : goal.invariant-loop-left
invariant-loop-left l = l.out.items ++ block_records l.opened.items l.left ≡ l.initial.out.items ++ block_records [] l.fn.lines

abbrev pub decreases-loop-left : goal.decreases-loop-left
decreases-loop-left l = length l.left

use Rattle.std.proofs.Common.{◌≡◌, ◌++◌, drop, map}
use Rattle.kc_asm_origin.specs.Written.{marked_line}
use Rattle.kc_asm_origin.proofs.written.marked.Given as goal

abbrev pub invariant-loop-line : goal.invariant-loop-line
invariant-loop-line l = l.copy.items ++ map marked_line (drop l.line-index l.lines) ≡ map marked_line l.lines

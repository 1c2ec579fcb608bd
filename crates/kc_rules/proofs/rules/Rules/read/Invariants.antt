use Rattle.std.proofs.Common.{◌≡◌, ◌+◌, ◌≤◌, length}
use Rattle.kc_base.specs.TextLines.{text_lines}
use Rattle.kc_rules.specs.Lines.{read_lines, book_of}
use Rattle.kc_rules.proofs.rules.Rules.read.Given as goal

abbrev pub invariant-loop-rest : goal.invariant-loop-rest
invariant-loop-rest l =
    (l.lines + length l.rest ≤ length l.bytes)
    × (read_lines l.clock l.lines (text_lines l.rest) (record { marks = l.marks.items; rules = l.rules.items }) ≡ book_of l.clock l.bytes)

abbrev pub decreases-loop-rest : goal.decreases-loop-rest
decreases-loop-rest l = length l.rest

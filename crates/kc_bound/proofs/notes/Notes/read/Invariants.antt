use Rattle.std.proofs.Common.{◌≡◌, ◌+◌, ◌≤◌, length}
use Rattle.kc_base.specs.TextLines.{text_lines}
use Rattle.kc_addresses.specs.Lines.{read_from}
use Rattle.kc_bound.specs.Reading.{address_of, notes_of, notes_read, with_line}
use Rattle.kc_bound.proofs.notes.Notes.read.Given as goal

abbrev pub invariant-loop-rest : goal.invariant-loop-rest
invariant-loop-rest l =
    (read_from (with_line (address_of l.names l.lines)) l.number (notes_read l.notes) (text_lines l.rest) ≡ notes_of (address_of l.names l.lines) l.text)
    × (l.number + length l.rest ≤ length l.text + 1)

abbrev pub decreases-loop-rest : goal.decreases-loop-rest
decreases-loop-rest l = length l.rest

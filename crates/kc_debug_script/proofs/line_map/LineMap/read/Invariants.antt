use Rattle.std.proofs.Common.{◌≡◌, ◌+◌, ◌≤◌, length}
use Rattle.kc_base.specs.TextLines.{text_lines}
use Rattle.kc_debug_script.specs.Reading.{said}
use Rattle.kc_debug_script.specs.LineMap.{entry_after, map_of, IsOrdered}
use Rattle.kc_debug_script.proofs.line_map.LineMap.read.Given as goal

abbrev pub invariant-loop-rest : goal.invariant-loop-rest
invariant-loop-rest l =
    (said entry_after l.entries.items (text_lines l.rest) ≡ map_of l.bytes) × IsOrdered l.entries.items × (length l.entries.items + length l.rest ≤ length l.bytes)

abbrev pub decreases-loop-rest : goal.decreases-loop-rest
decreases-loop-rest l = length l.rest

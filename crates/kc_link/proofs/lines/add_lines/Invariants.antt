use Rattle.std.proofs.Common.{◌≡◌, ◌++◌, map, length}
use Rattle.kc_link_place.specs.BaseLists.{bases_in}
use Rattle.kc_link.specs.LineMap.{line_at, LinesStand}
use Rattle.kc_link.proofs.lines.add_lines.Given as goal

abbrev pub invariant-loop-left : goal.invariant-loop-left
invariant-loop-left l = record {
  goes_on : l.entries.items ++ map (line_at (bases_in l.bases) l.name) l.left ≡ l.initial.entries.items ++ map (line_at (bases_in l.bases) l.name) l.fn.lines;
  stand : LinesStand (bases_in l.bases) l.left;
}

abbrev pub decreases-loop-left : goal.decreases-loop-left
decreases-loop-left l = length l.left

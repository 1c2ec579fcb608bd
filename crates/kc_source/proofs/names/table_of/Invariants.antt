use Rattle.std.proofs.Common.{◌≤◌, length, drop}
use Rattle.kc_source.specs.Known.{IsTable}
use Rattle.kc_source.proofs.names.table_of.Given as goal

abbrev pub invariant-loop-left : goal.invariant-loop-left
invariant-loop-left l = record {
  within : l.left ≤ length l.uses;
  table : IsTable l.table.map.entries (drop l.left l.uses);
}

abbrev pub decreases-loop-left : goal.decreases-loop-left
decreases-loop-left l = l.left

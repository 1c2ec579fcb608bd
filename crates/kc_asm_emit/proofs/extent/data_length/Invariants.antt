use Rattle.std.proofs.Common.{◌≡◌, ◌+◌, ◌≤◌, map, drop}
use Rattle.std.specs.Prelude.{min}
use Rattle.kc_source_statement.specs.Trees.{item_tree}
use Rattle.kc_asm_emit.specs.Content.{data_count}
use Rattle.kc_asm_emit.specs.Seen.{most}
use Rattle.kc_asm_emit.proofs.extent.data_length.Given as goal

abbrev pub invariant-loop-item : goal.invariant-loop-item
invariant-loop-item l = record {
  count : min (l.count + data_count l.size (map item_tree (drop l.item-index l.items))) most ≡ min (data_count l.size (map item_tree l.items)) most;
  bound : l.count ≤ most;
}

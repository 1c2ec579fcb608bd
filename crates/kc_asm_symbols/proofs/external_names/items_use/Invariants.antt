use Rattle.std.proofs.Common.{◌≡◌, drop}
use Rattle.std.specs.Prelude.{map}
use Rattle.std.specs.List.{list_any}
use Rattle.kc_source_statement.specs.Trees.{item_tree}
use Rattle.kc_asm_symbols.specs.Externals.{uses_stack, all_trees, item_trees}
use Rattle.kc_asm_symbols.proofs.external_names.items_use.Given as goal

abbrev pub invariant-loop-item : goal.invariant-loop-item
invariant-loop-item l = list_any uses_stack (all_trees item_trees (map item_tree (drop l.item-index l.items))) ≡ list_any uses_stack (all_trees item_trees (map item_tree l.items))

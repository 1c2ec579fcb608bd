use Rattle.std.proofs.Common.{◌≡◌, ◌++◌, map, drop}
use Rattle.kc_source_statement.specs.Trees.{item_tree}
use Rattle.kc_asm_emit.specs.Content as content
use Rattle.kc_asm_emit.proofs.items.data_relocatables.Given as goal

abbrev pub invariant-loop-item : goal.invariant-loop-item
invariant-loop-item g l =
    l.list.items ++ content.data_relocatables (g.S.Scope.answers l.scope) l.size (map item_tree (drop l.item-index l.items))
    ≡ content.data_relocatables (g.S.Scope.answers l.scope) l.size (map item_tree l.items)

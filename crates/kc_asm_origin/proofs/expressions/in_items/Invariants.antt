use Rattle.std.proofs.Common.{◌≡◌, drop}
use Rattle.kc_source_statement.specs.Trees.{item_tree}
use Rattle.kc_asm_symbols.specs.Externals.{item_trees}
use Rattle.kc_asm_origin.proofs.Walks.{among}
use Rattle.kc_asm_origin.proofs.expressions.in_items.Given as goal

abbrev pub invariant-loop-item : goal.invariant-loop-item
invariant-loop-item g l = among (g.S.Scope.answers l.scope) item_trees item_tree (drop l.item-index l.items) ≡ among (g.S.Scope.answers l.scope) item_trees item_tree l.items

-- The characters in the expressions of a statement are bytes (after the MCS-96 Macro Assembler User's Guide, "Expressions").
use Rattle.std.specs.Prelude.{Bool, true, ◌&&◌, nat_lt}
use Rattle.std.specs.List.{list_all}
use Rattle.kc_expr.specs.Tree.{Tree, Number, Chars, Name, Here, One, Two}
use Rattle.kc_source_statement.specs.declared.statement.Stmt.{Stmt}
use Rattle.kc_source_statement.specs.Trees.{ActionTree, action_tree}
use Rattle.kc_asm_symbols.specs.Externals.{action_trees}

unfoldable pub are_bytes : Tree → Bool
are_bytes (Number n) = true
are_bytes (Chars cs) = list_all (λ c. nat_lt c 256) cs
are_bytes (Name n) = true
are_bytes Here = true
are_bytes (One op e) = are_bytes e
are_bytes (Two op a b) = are_bytes a && are_bytes b

abbrev pub all_bytes : ActionTree → Bool
all_bytes action = list_all are_bytes (action_trees action)

abbrev pub has_bytes : Stmt → Bool
has_bytes s = all_bytes (action_tree s.action)

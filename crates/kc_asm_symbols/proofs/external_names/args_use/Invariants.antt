use Rattle.std.proofs.Common.{◌≡◌, drop}
use Rattle.std.specs.Prelude.{map}
use Rattle.std.specs.List.{list_any}
use Rattle.kc_source_statement.specs.Trees.{arg_tree}
use Rattle.kc_asm_symbols.specs.Externals.{uses_stack, all_trees, arg_trees}
use Rattle.kc_asm_symbols.proofs.external_names.args_use.Given as goal

abbrev pub invariant-loop-arg : goal.invariant-loop-arg
invariant-loop-arg l = list_any uses_stack (all_trees arg_trees (map arg_tree (drop l.arg-index l.args))) ≡ list_any uses_stack (all_trees arg_trees (map arg_tree l.args))

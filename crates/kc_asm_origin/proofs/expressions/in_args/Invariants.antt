use Rattle.std.proofs.Common.{◌≡◌, drop}
use Rattle.kc_source_statement.specs.Trees.{arg_tree}
use Rattle.kc_asm_symbols.specs.Externals.{arg_trees}
use Rattle.kc_asm_origin.proofs.Walks.{among}
use Rattle.kc_asm_origin.proofs.expressions.in_args.Given as goal

abbrev pub invariant-loop-arg : goal.invariant-loop-arg
invariant-loop-arg g l = among (g.S.Scope.answers l.scope) arg_trees arg_tree (drop l.arg-index l.args) ≡ among (g.S.Scope.answers l.scope) arg_trees arg_tree l.args

use Rattle.std.proofs.Common.{◌≡◌, ◌++◌, map, drop}
use Rattle.kc_source_statement.specs.Trees.{arg_tree}
use Rattle.kc_asm_emit.specs.Arguments as arguments
use Rattle.kc_asm_emit.proofs.operands.arguments.Given as goal

abbrev pub invariant-loop-arg : goal.invariant-loop-arg
invariant-loop-arg g l =
    l.list.items ++ arguments.arguments (g.S.Scope.answers l.scope) (map arg_tree (drop l.arg-index l.args))
    ≡ arguments.arguments (g.S.Scope.answers l.scope) (map arg_tree l.args)

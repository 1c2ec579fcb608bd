use Rattle.std.proofs.Common.{◌≡◌, map, drop}
use Rattle.std.specs.List.{flat_map}
use Rattle.kc_source_statement.specs.Trees.{arg_tree}
use Rattle.kc_lex.specs.Codes.{lesser_number}
use Rattle.kc_asm_emit.specs.Faults as faults
use Rattle.kc_asm_emit.proofs.faults.operands_fault.Given as goal

abbrev pub invariant-loop-arg : goal.invariant-loop-arg
invariant-loop-arg g l =
    lesser_number l.code (faults.least (flat_map (faults.operand_faults (g.S.Scope.answers l.scope)) (map arg_tree (drop l.arg-index l.args))))
    ≡ faults.least (flat_map (faults.operand_faults (g.S.Scope.answers l.scope)) (map arg_tree l.args))

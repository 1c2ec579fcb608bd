use Rattle.std.proofs.Common.{◌∙◌, ap}
use Rattle.kc_source_statement.specs.Trees.{arg_tree}
use Rattle.kc_lex.specs.Codes.{lesser_number}
use Rattle.kc_asm_emit.specs.Faults as faults
use Rattle.kc_asm_emit.proofs.FaultLemmas.{advances, ends}
use Rattle.kc_asm_emit.proofs.faults.operands_fault.Goals as goal

pub loop-arg-preserved : goal.loop-arg-preserved
loop-arg-preserved g c =
    advances (faults.operand_faults (g.S.Scope.answers c.args.scope.now)) arg_tree c.args.args.now c.loop-arg.arg-index c.arg-item.result _ _ _
    c.loop-arg-test.true c.arg-item.is (c.lesser_number-code.ensures ∙ ap (lesser_number c.loop-arg.code) c.operand_values_fault.ensures) c.loop-arg.invariant

pub returns : goal.returns
returns g c =
    ends (faults.operand_faults (g.S.Scope.answers c.args.scope.now)) arg_tree c.args.args.now c.loop-arg.arg-index _ _ c.loop-arg-test.false c.loop-arg.invariant

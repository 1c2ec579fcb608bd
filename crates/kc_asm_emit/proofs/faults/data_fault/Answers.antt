use Rattle.std.proofs.Common.{◌∙◌, ap}
use Rattle.kc_source_statement.specs.Trees.{item_tree}
use Rattle.kc_lex.specs.Codes.{lesser_number}
use Rattle.kc_asm_emit.specs.Faults as faults
use Rattle.kc_asm_emit.proofs.FaultLemmas.{advances, ends}
use Rattle.kc_asm_emit.proofs.faults.data_fault.Goals as goal

pub loop-item-preserved : goal.loop-item-preserved
loop-item-preserved g c =
    advances (faults.item_faults (g.S.Scope.answers c.args.scope.now) c.args.size) item_tree c.args.items.now c.loop-item.item-index c.item-item.result _ _ _
    c.loop-item-test.true c.item-item.is (c.lesser_number-code.ensures ∙ ap (lesser_number c.loop-item.code) c.item_fault.ensures) c.loop-item.invariant

pub returns : goal.returns
returns g c =
    ends (faults.item_faults (g.S.Scope.answers c.args.scope.now) c.args.size) item_tree c.args.items.now c.loop-item.item-index _ _ c.loop-item-test.false c.loop-item.invariant

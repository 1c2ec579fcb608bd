use Rattle.std.proofs.Common.{◌≡◌, IfOk, map, ap, sym, subst, ◌∙◌}
use Rattle.kc_expr.specs.declared.values.Value.{Value}
use Rattle.kc_source_statement.specs.Trees.{ActionTree, arg_tree, action_tree}
use Rattle.kc_source_statement.specs.Trees as trees
use Rattle.kc_asm_layout.specs.StatementSizes as spec
use Rattle.kc_asm_layout.proofs.size_records.body_in.Goals as goal

pub returns-in-Operation : goal.returns-in-Operation
returns-in-Operation g c =
    let said : trees.Operation c.as_slice.result.now (map arg_tree c.as_slice-in-Operation.result.now) ≡ action_tree c.args.action.now =
    (λ i. trees.Operation (c.as_slice.ensures i) (map arg_tree (c.as_slice-in-Operation.ensures i))) ∙ ap action_tree (sym c.in-Operation.is) in
    subst
    (λ (a : ActionTree). IfOk c.operation_body.result (λ b. (here : Value) → b ≡ spec.body_in (g.S.Scope.answers c.args.look.now) (g.T.Scope.answers c.args.own.now) here a))
    said c.operation_body.ensures

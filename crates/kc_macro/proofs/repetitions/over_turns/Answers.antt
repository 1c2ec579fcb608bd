use Rattle.std.proofs.Common.{◌≡◌, IfOk, subst, ◌∙◌}
use Rattle.kc_macro_input.specs.Filled.{fill_turns, fault_of}
use Rattle.kc_macro.specs.Steps as steps
use Rattle.kc_macro.proofs.Turns.{over_begun}
use Rattle.kc_macro.proofs.repetitions.over_turns.Goals as goal

pub returns-in-None : goal.returns-in-None
returns-in-None c =
    let formals = c.in_ok-formals.formals in
    let head = c.in_ok-head.head in
    let body = c.in_ok-body.body.items in
    subst (λ n. IfOk c.begun.result (λ r. steps.next_of r c.begun.new.state ≡ n))
    (over_begun c.args.state.now c.args.number c.args.from.now c.args.over c.args.prefix.now formals head body c.in_ok-fault.field-0 c.in_ok-formals.ensures c.in_ok-head.ensures c.in_ok-body.ensures
    (c.in_ok-fault.ensures head ∙ (λ i. fault_of (fill_turns formals head (c.as_slice.ensures.value i) (c.as_slice-2.ensures i)))) c.in-None.is)
    c.begun.ensures

use Rattle.std.proofs.Common.{◌≡◌, length, sym, subst, ◌∙◌}
use Rattle.std.proofs.lemmas.Bool.{eqb-false}
use Rattle.kc_macro.proofs.Turns.{first_turn}
use Rattle.kc_macro.proofs.repetitions.begun.Goals as goal

pub returns : goal.returns
returns c =
    let over = c.args.over in
    c.counted.ensures
    ∙ first_turn c.args.state.now c.args.number over.formals over.head over.body.items over.args c.put_over.new.self c.next.new.self c.in_ok-next.field-0
    (subst (λ ts. length ts ≡ 0 → ⊥) c.as_slice.ensures (eqb-false (length c.as_slice.result.now) 0 (sym c.is_empty.ensures ∙ c.if-is_empty.false)))
    c.in_ok-put_over.ensures c.in_ok-next.ensures

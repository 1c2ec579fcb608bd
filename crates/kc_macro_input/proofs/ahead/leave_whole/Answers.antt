use Rattle.std.proofs.Common.{rules, ◌≡◌, ap, refl, sym, ◌∙◌}
use Rattle.kc_macro_input.specs.Ahead.{flat, pieces_of}
use Rattle.kc_macro_input.specs.Pieces.{left_out}
use Rattle.kc_macro_input.proofs.AheadLemmas.{flat_popped, leave_all}
use Rattle.kc_macro_input.proofs.ahead.leave_whole.Goals as goal

pub loop-held-preserved : goal.loop-held-preserved
loop-held-preserved c =
    sym (leave_all c.args.mark (pieces_of c.in-Some.held) (flat c.pop.new.self.items) (c.if-all_from.ensures refl))
    ∙ ap (left_out c.args.mark) (sym (flat_popped _ _ _ c.in-Some.ensures.items)) ∙ c.loop-held.invariant

pub returns-in-Some : goal.returns-in-Some
returns-in-Some c = ap (left_out c.args.mark) (c.in_ok-put_held.ensures ∙ sym (flat_popped _ _ _ c.in-Some.ensures.items)) ∙ c.loop-held.invariant

pub returns : goal.returns
returns c =
    let none : c.pop.new.self.items ≡ c.loop-held.stack.items = search rules in
    ap (λ hs. left_out c.args.mark (flat hs)) none ∙ c.loop-held.invariant

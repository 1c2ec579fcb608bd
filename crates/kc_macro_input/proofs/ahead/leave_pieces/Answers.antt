use Rattle.std.proofs.Common.{ap, sym, ◌∙◌}
use Rattle.kc_macro_input.specs.Ahead.{flat}
use Rattle.kc_macro_input.specs.Pieces.{left_out}
use Rattle.kc_macro_input.proofs.AheadLemmas.{leave_more, leave_none, leave_end}
use Rattle.kc_macro_input.proofs.ahead.leave_pieces.Goals as goal

pub loop-piece-preserved : goal.loop-piece-preserved
loop-piece-preserved c =
    let text = rw c.in-Some.is at c.in_ok-piece.ensures.text in
    leave_more c.args.mark c.in-Some.piece (flat c.take.new.stack.items) (flat c.loop-piece.stack.items) text (sym c.if-has.ensures) ∙ c.loop-piece.invariant

pub returns-in-Some : goal.returns-in-Some
returns-in-Some c =
    let text = rw c.in-Some.is at c.in_ok-piece.ensures.text in
    c.in_ok-put_held.ensures ∙ leave_none c.args.mark c.in-Some.piece (flat c.take.new.stack.items) (flat c.loop-piece.stack.items) text (sym c.if-has.ensures) ∙ c.loop-piece.invariant ∙ c.in_ok-leave_whole.ensures

pub returns : goal.returns
returns c =
    let text = rw c.in_default.is at c.in_ok-piece.ensures.text in
    let none = rw c.in_default.is at c.in_ok-piece.ensures.none in
    none ∙ sym (leave_end c.args.mark) ∙ ap (left_out c.args.mark) (sym text) ∙ c.loop-piece.invariant ∙ c.in_ok-leave_whole.ensures

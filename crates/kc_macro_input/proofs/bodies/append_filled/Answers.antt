use Rattle.std.proofs.Common.{◌+◌, drop, ap, ◌∙◌, arith, drop_of_length-le}
use Rattle.kc_macro_input.specs.Filled.{together, single, fill_piece, seen_filled}
use Rattle.kc_macro_input.proofs.FilledLemmas.{prefix_of, together_more, together_end}
use Rattle.kc_macro_input.proofs.bodies.append_filled.Goals as goal

pub loop-piece-preserved : goal.loop-piece-preserved
loop-piece-preserved c =
    let body = c.args.body.now in
    together_more (λ p. single (fill_piece c.args.formals.now c.args.args.now c.args.given p)) c.piece-item.result (drop (c.loop-piece.piece-index + 1) body) (drop c.loop-piece.piece-index body) (seen_filled c.loop-piece.all) (seen_filled c.in_ok-all.all) _
    (prefix_of body c.loop-piece.piece-index c.piece-item.result (omega arith) c.piece-item.is) (c.in_ok-all.ensures ∙ ap (λ r. together (seen_filled c.loop-piece.all) (single r)) c.in_ok-next.ensures) c.loop-piece.invariant

pub returns : goal.returns
returns c =
    together_end (λ p. single (fill_piece c.args.formals.now c.args.args.now c.args.given p)) (drop c.loop-piece.piece-index c.args.body.now) (seen_filled c.loop-piece.all) _ (drop_of_length-le c.args.body.now {i = c.loop-piece.piece-index} (omega arith)) c.loop-piece.invariant

use Rattle.std.proofs.Common.{◌+◌, drop, arith, drop_of_length-le}
use Rattle.kc_macro_body.proofs.ArgumentLemmas.{prefix_of}
use Rattle.kc_macro_body.proofs.FillLemmas.{replaced_more, replaced_end}
use Rattle.kc_macro_body.proofs.filling.replaced.Goals as goal

pub loop-token-preserved : goal.loop-token-preserved
loop-token-preserved c =
    replaced_more c.args.formals.now c.args.args.now c.args.given c.token-item.result (drop (c.loop-token.token-index + 1) c.args.tokens.now) (drop c.loop-token.token-index c.args.tokens.now) c.loop-token.line c.append_replaced.new.line _
    (prefix_of c.args.tokens.now c.loop-token.token-index c.token-item.result (omega arith) c.token-item.is) c.in_ok-append_replaced.ensures c.loop-token.invariant

pub returns : goal.returns
returns c =
    replaced_end c.args.formals.now c.args.args.now c.args.given c.loop-token.line (drop c.loop-token.token-index c.args.tokens.now) _ (drop_of_length-le c.args.tokens.now {i = c.loop-token.token-index} (omega arith)) c.loop-token.invariant

use Rattle.std.proofs.Common.{◌≡◌, ◌+◌, ◌==◌, false, true, drop, ap, sym, ◌∙◌, arith, drop_of_length-le}
use Rattle.kc_macro_body.specs.Arguments.{is_nothing, group_depth}
use Rattle.kc_macro_body.proofs.ArgumentLemmas.{prefix_of, closes_end, closes_more, closes_none}
use Rattle.kc_macro_body.proofs.arguments.closes.Goals as goal

pub returns-then-is_zero : goal.returns-then-is_zero
returns-then-is_zero c =
    let t = c.index-tokens-at.result in
    let zero : (group_depth t c.loop-at.depth == 0) ≡ true = ap (λ d. d == 0) (sym c.group_depth-depth.ensures.value) ∙ sym c.if-is_zero.ensures in
    c.is_nothing.ensures ∙ ap is_nothing c.split_at.ensures.back ∙ closes_end c.loop-at.depth t (drop (c.loop-at.at + 1) c.args.tokens.now) (drop c.loop-at.at c.args.tokens.now) _
    (prefix_of c.args.tokens.now c.loop-at.at t (omega arith) c.index-tokens-at.is) zero c.loop-at.invariant.kept

pub loop-at-preserved : goal.loop-at-preserved
loop-at-preserved c =
    let t = c.index-tokens-at.result in
    let more : (group_depth t c.loop-at.depth == 0) ≡ false = ap (λ d. d == 0) (sym c.group_depth-depth.ensures.value) ∙ sym c.if-is_zero.ensures in
    record {
      within = omega arith;
      shallow = omega (arith, c.group_depth-depth.ensures.small, c.loop-at.invariant.shallow);
      kept = rw c.group_depth-depth.ensures.value (closes_more c.loop-at.depth t (drop (c.loop-at.at + 1) c.args.tokens.now) (drop c.loop-at.at c.args.tokens.now) _
          (prefix_of c.args.tokens.now c.loop-at.at t (omega arith) c.index-tokens-at.is) more c.loop-at.invariant.kept);
    }

pub returns : goal.returns
returns c = closes_none c.loop-at.depth (drop c.loop-at.at c.args.tokens.now) _ (drop_of_length-le c.args.tokens.now {i = c.loop-at.at} (omega arith)) c.loop-at.invariant.kept

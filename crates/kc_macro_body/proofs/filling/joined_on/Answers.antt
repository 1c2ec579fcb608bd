use Rattle.std.proofs.Common.{◌≡◌, ◌+◌, ◌∷◌, [], List, drop, ap, sym, ◌∙◌, arith, drop_of_length-le}
use Rattle.kc_lex.specs.declared.token.Token.{Token}
use Rattle.kc_macro_body.specs.Filling.{joined_on}
use Rattle.kc_macro_body.proofs.ArgumentLemmas.{prefix_of}
use Rattle.kc_macro_body.proofs.FillLemmas.{after_line, joined_more, joined_open, joined_wrong, joined_name, joined_end}
use Rattle.kc_macro_body.proofs.filling.joined_on.Goals as goal

pub loop-at-preserved-then-not-is_join : goal.loop-at-preserved-then-not-is_join
loop-at-preserved-then-not-is_join c =
    let tokens = c.args.tokens.now in
    record {
      within = omega arith;
      kept = rw (c.in_ok-push.ensures.ok, c.in_ok-last-2.ensures) (joined_more c.loop-at.line c.loop-at.last c.index-tokens-at.result (drop (c.loop-at.at + 1) tokens) (drop c.loop-at.at tokens) _
          (prefix_of tokens c.loop-at.at c.index-tokens-at.result (omega arith) c.index-tokens-at.is) (sym c.if-not-is_join.ensures) c.loop-at.invariant.kept);
    }

pub returns-then-at-tokens : goal.returns-then-at-tokens
returns-then-at-tokens c =
    let tokens = c.args.tokens.now in
    let t = c.index-tokens-at.result in
    let none : drop (c.loop-at.at + 1) tokens ≡ [] = drop_of_length-le tokens {i = c.loop-at.at + 1} (omega arith) in
    joined_open c.loop-at.line c.loop-at.last t (drop c.loop-at.at tokens) _ (prefix_of tokens c.loop-at.at t (omega arith) c.index-tokens-at.is ∙ ap (λ (ts : List Token). t ∷ ts) none) (sym c.if-not-is_join.ensures) c.loop-at.invariant.kept

pub returns-in-None : goal.returns-in-None
returns-in-None c =
    let tokens = c.args.tokens.now in
    let t = c.index-tokens-at.result in
    let u = c.index-tokens-at-in-loop-at.result in
    let rest = prefix_of tokens c.loop-at.at t (omega arith) c.index-tokens-at.is ∙ ap (λ (ts : List Token). t ∷ ts) (prefix_of tokens (c.loop-at.at + 1) u (omega arith) c.index-tokens-at-in-loop-at.is) in
    joined_wrong c.loop-at.line c.loop-at.last t u (drop (c.loop-at.at + 1 + 1) tokens) (drop c.loop-at.at tokens) _ rest (sym c.if-not-is_join.ensures) (sym c.in-None.is ∙ c.in_ok-one_name.ensures) c.loop-at.invariant.kept

pub loop-at-preserved : goal.loop-at-preserved
loop-at-preserved c =
    let tokens = c.args.tokens.now in
    let t = c.index-tokens-at.result in
    let u = c.index-tokens-at-in-loop-at.result in
    let rest = prefix_of tokens c.loop-at.at t (omega arith) c.index-tokens-at.is ∙ ap (λ (ts : List Token). t ∷ ts) (prefix_of tokens (c.loop-at.at + 1) u (omega arith) c.index-tokens-at-in-loop-at.is) in
    let two : c.loop-at.at + 1 + 1 ≡ c.loop-at.at + 2 = omega arith in
    record {
      within = omega arith;
      kept = ap (λ n. after_line c.loop-at.line (joined_on c.in-Some.name (drop n tokens))) (sym two)
          ∙ joined_name c.loop-at.line c.loop-at.last t u c.in-Some.name (drop (c.loop-at.at + 1 + 1) tokens) (drop c.loop-at.at tokens) _ rest (sym c.if-not-is_join.ensures) (sym c.in-Some.is ∙ c.in_ok-one_name.ensures) c.loop-at.invariant.kept;
    }

pub returns : goal.returns
returns c =
    rw c.in_ok-push-2.ensures.ok (joined_end c.loop-at.line c.loop-at.last (drop c.loop-at.at c.args.tokens.now) _ (drop_of_length-le c.args.tokens.now {i = c.loop-at.at} (omega arith)) c.loop-at.invariant.kept)

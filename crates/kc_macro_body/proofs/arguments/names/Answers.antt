use Rattle.std.proofs.Common.{◌≡◌, ◌+◌, ◌∷◌, ◌++◌, [], List, drop, ap, sym, ◌∙◌, arith, drop_of_length-le}
use Rattle.kc_lex.specs.declared.token.Token.{Token}
use Rattle.kc_macro_body.specs.Arguments.{names_at}
use Rattle.kc_macro_body.proofs.ArgumentLemmas.{after_names, prefix_of, names_stop, names_last, names_bad, names_more, names_none}
use Rattle.kc_macro_body.proofs.arguments.names.Goals as goal

pub returns-then-not-is_free_name : goal.returns-then-not-is_free_name
returns-then-not-is_free_name c =
    let tokens = c.args.tokens.now in
    let rest = prefix_of tokens c.loop-at.at c.index-tokens-at.result (omega arith) c.index-tokens-at.is in
    names_stop c.loop-at.params c.index-tokens-at.result (drop (c.loop-at.at + 1) tokens) (drop c.loop-at.at tokens) _ rest (sym c.if-not-is_free_name.ensures) c.loop-at.invariant.kept

pub returns-then-at-tokens : goal.returns-then-at-tokens
returns-then-at-tokens c =
    let tokens = c.args.tokens.now in
    let t = c.index-tokens-at.result in
    let none : drop (c.loop-at.at + 1) tokens ≡ [] = drop_of_length-le tokens {i = c.loop-at.at + 1} (omega arith) in
    let rest = prefix_of tokens c.loop-at.at t (omega arith) c.index-tokens-at.is ∙ ap (λ (ts : List Token). t ∷ ts) none in
    rw (c.in_ok-push.ensures, c.in_ok-of.ensures, c.as_slice.ensures) (names_last c.loop-at.params t (drop c.loop-at.at tokens) _ rest (sym c.if-not-is_free_name.ensures) c.loop-at.invariant.kept)

pub returns-then-not-is_sign : goal.returns-then-not-is_sign
returns-then-not-is_sign c =
    let tokens = c.args.tokens.now in
    let t = c.index-tokens-at.result in
    let u = c.index-tokens-at-in-loop-at.result in
    let rest = prefix_of tokens c.loop-at.at t (omega arith) c.index-tokens-at.is ∙ ap (λ (ts : List Token). t ∷ ts) (prefix_of tokens (c.loop-at.at + 1) u (omega arith) c.index-tokens-at-in-loop-at.is) in
    names_bad c.loop-at.params t u (drop (c.loop-at.at + 1 + 1) tokens) (drop c.loop-at.at tokens) _ rest (sym c.if-not-is_free_name.ensures) (sym c.if-not-is_sign.ensures) c.loop-at.invariant.kept

pub loop-at-preserved : goal.loop-at-preserved
loop-at-preserved c =
    let tokens = c.args.tokens.now in
    let t = c.index-tokens-at.result in
    let u = c.index-tokens-at-in-loop-at.result in
    let rest = prefix_of tokens c.loop-at.at t (omega arith) c.index-tokens-at.is ∙ ap (λ (ts : List Token). t ∷ ts) (prefix_of tokens (c.loop-at.at + 1) u (omega arith) c.index-tokens-at-in-loop-at.is) in
    let two : c.loop-at.at + 1 + 1 ≡ c.loop-at.at + 2 = omega arith in
    record {
      within = omega arith;
      kept = rw (c.in_ok-push.ensures, c.in_ok-of.ensures, c.as_slice.ensures) (ap (λ n. after_names (c.loop-at.params ++ t.text ∷ []) (names_at (drop n tokens))) (sym two) ∙ names_more c.loop-at.params t u (drop (c.loop-at.at + 1 + 1) tokens) (drop c.loop-at.at tokens) _ rest (sym c.if-not-is_free_name.ensures) (sym c.if-not-is_sign.ensures) c.loop-at.invariant.kept);
    }

pub returns : goal.returns
returns c = names_none c.loop-at.params (drop c.loop-at.at c.args.tokens.now) _ (drop_of_length-le c.args.tokens.now {i = c.loop-at.at} (omega arith)) c.loop-at.invariant.kept

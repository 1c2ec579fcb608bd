use Rattle.kc_macro_body.specs.Arguments.{ungrouped}
use Rattle.std.proofs.Common.{map, rules, ◌≡◌, ◌<◌, ◌+◌, ◌++◌, [], length, drop, ap, sym, ◌∙◌, arith, drop_of_length-le}
use Rattle.kc_macro_body.specs.Arguments.{split_at_commas}
use Rattle.kc_macro_body.proofs.ArgumentLemmas.{with_last, prefix_of, split_start, split_comma, split_more, split_end, arguments_some}
use Rattle.kc_macro_body.proofs.arguments.arguments.Goals.{then-splits+in_ok-push_argument, else-splits+in_ok-copy_token+in_ok-push}
use Rattle.kc_macro_body.proofs.arguments.arguments.Goals as goal

pub loop-token-init : goal.loop-token-init
loop-token-init c = record { shallow = omega arith; kept = rw (c.new-texts.ensures, c.new-last.ensures) (ap (map ungrouped) (split_start 0 c.args.tokens.now)) }

pub loop-token-preserved : goal.loop-token-preserved
loop-token-preserved c =
    let t = c.token-item.result in
    let rest = prefix_of c.args.tokens.now c.loop-token.token-index t (omega arith) c.token-item.is in
    let later = drop (c.loop-token.token-index + 1) c.args.tokens.now in
    elim c.if-splits.branch [
      | then-splits+in_ok-push_argument w ↦ record {
        shallow = omega (arith, w.depth-is, c.loop-token.invariant.shallow);
        kept = rw (w.texts-is, w.last-is, w.depth-is, w.in_ok-push_argument.ensures, w.new-last-then-splits.ensures) (split_comma c.loop-token.depth t later _ c.loop-token.last c.loop-token.texts _ rest (sym w.if-splits.ensures) c.loop-token.invariant.kept);
      }
      | else-splits+in_ok-copy_token+in_ok-push w ↦ record {
        shallow = omega (arith, w.depth-is, w.group_depth-depth.ensures.small, c.loop-token.invariant.shallow);
        kept = rw (w.texts-is, w.last-is, w.depth-is, w.in_ok-push.ensures.ok, w.group_depth-depth.ensures.value, w.in_ok-copy_token.ensures) (split_more c.loop-token.depth t later _ c.loop-token.last c.loop-token.texts _ rest (sym w.if-splits.ensures) c.loop-token.invariant.kept);
      }
    ]

pub returns : goal.returns
returns c =
    let none : drop c.loop-token.token-index c.args.tokens.now ≡ [] = drop_of_length-le c.args.tokens.now {i = c.loop-token.token-index} (omega arith) in
    let some : 0 < length c.args.tokens.now = search rules in
    c.in_ok-push_argument-2.ensures ∙ split_end c.loop-token.depth c.loop-token.last c.loop-token.texts _ (ap (λ ts. c.loop-token.texts ++ map ungrouped (with_last c.loop-token.last (split_at_commas c.loop-token.depth ts))) (sym none) ∙ c.loop-token.invariant.kept)
    ∙ arguments_some c.args.tokens.now some

use Rattle.std.proofs.Common.{◌+◌, ◌<◌, ◌∷◌, [], length, drop, Some, sym, ap, ◌∙◌, arith}
use Rattle.std.specs.Prelude.{map}
use Rattle.std.specs.Option.{option_map}
use Rattle.std.proofs.lemmas.List.{map-append}
use Rattle.kc_source_statement.specs.Trees.{arg_tree}
use Rattle.kc_source_statement.specs.Operands.{operand, parts, all_some}
use Rattle.kc_source_statement.proofs.PartLemmas.{after_some, part_fails, last_part, part_read}
use Rattle.kc_source_statement.proofs.parts.operand_parts.Goals as goal

pub returns-in_default : goal.returns-in_default
returns-in_default c = part_fails operand (map arg_tree c.parts.args) c.parts.left.now c.part_len-n.result (all_some operand (parts c.args.tokens.now)) c.part_len-n.ensures.value (ap operand (sym c.prefix.ensures) ∙ c.in_ok-arg.ensures ∙ ap (option_map arg_tree) c.in_default.is) c.parts.invariant

pub returns-then-n-left : goal.returns-then-n-left
returns-then-n-left c =
    last_part operand (map arg_tree c.parts.args) (arg_tree c.in-Some.arg) c.parts.left.now c.part_len-n.result (all_some operand (parts c.args.tokens.now)) c.part_len-n.ensures.value c.if-n-left.true (ap operand (sym c.prefix.ensures) ∙ c.in_ok-arg.ensures ∙ ap (option_map arg_tree) c.in-Some.is) c.parts.invariant
    ∙ ap (λ xs. Some xs) (sym (map-append arg_tree c.parts.args (c.in-Some.arg ∷ []))) ∙ ap (λ xs. Some (map arg_tree xs)) (sym c.in_ok-push.ensures.ok)

pub parts-preserved : goal.parts-preserved
parts-preserved c =
    let more : c.part_len-n.result < length c.parts.left.now = omega (arith, c.part_len-n.ensures.within, c.if-n-left.false) in
    (λ i. after_some (map arg_tree (c.in_ok-push.ensures.ok i)) (all_some operand (parts (c.rest-left.ensures i))))
    ∙ ap (λ xs. after_some xs (all_some operand (parts (drop (c.part_len-n.result + 1) c.parts.left.now)))) (map-append arg_tree c.parts.args (c.in-Some.arg ∷ []))
    ∙ part_read operand (map arg_tree c.parts.args) (arg_tree c.in-Some.arg) c.parts.left.now c.part_len-n.result (all_some operand (parts c.args.tokens.now)) c.part_len-n.ensures.value more (ap operand (sym c.prefix.ensures) ∙ c.in_ok-arg.ensures ∙ ap (option_map arg_tree) c.in-Some.is) c.parts.invariant

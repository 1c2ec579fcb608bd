use Rattle.std.proofs.Common.{◌+◌, ◌<◌, ◌∷◌, [], length, drop, Some, sym, ap, ◌∙◌, arith}
use Rattle.std.specs.Prelude.{map}
use Rattle.std.specs.Option.{option_map}
use Rattle.std.proofs.lemmas.List.{map-append}
use Rattle.kc_source_statement.specs.Trees.{item_tree}
use Rattle.kc_source_statement.specs.Operands.{item, parts, all_some}
use Rattle.kc_source_statement.proofs.PartLemmas.{after_some, part_fails, last_part, part_read}
use Rattle.kc_source_statement.proofs.parts.items.Goals as goal

pub returns-in_default : goal.returns-in_default
returns-in_default c = part_fails (item c.args.bytes) (map item_tree c.parts.items) c.parts.left.now c.part_len-n.result (all_some (item c.args.bytes) (parts c.args.tokens.now)) c.part_len-n.ensures.value (ap (item c.args.bytes) (sym c.prefix.ensures) ∙ c.in_ok-read.ensures ∙ ap (option_map item_tree) c.in_default.is) c.parts.invariant

pub returns-then-n-left : goal.returns-then-n-left
returns-then-n-left c =
    last_part (item c.args.bytes) (map item_tree c.parts.items) (item_tree c.in-Some.read) c.parts.left.now c.part_len-n.result (all_some (item c.args.bytes) (parts c.args.tokens.now)) c.part_len-n.ensures.value c.if-n-left.true (ap (item c.args.bytes) (sym c.prefix.ensures) ∙ c.in_ok-read.ensures ∙ ap (option_map item_tree) c.in-Some.is) c.parts.invariant
    ∙ ap (λ xs. Some xs) (sym (map-append item_tree c.parts.items (c.in-Some.read ∷ []))) ∙ ap (λ xs. Some (map item_tree xs)) (sym c.in_ok-push.ensures.ok)

pub parts-preserved : goal.parts-preserved
parts-preserved c =
    let more : c.part_len-n.result < length c.parts.left.now = omega (arith, c.part_len-n.ensures.within, c.if-n-left.false) in
    (λ i. after_some (map item_tree (c.in_ok-push.ensures.ok i)) (all_some (item c.args.bytes) (parts (c.rest-left.ensures i))))
    ∙ ap (λ xs. after_some xs (all_some (item c.args.bytes) (parts (drop (c.part_len-n.result + 1) c.parts.left.now)))) (map-append item_tree c.parts.items (c.in-Some.read ∷ []))
    ∙ part_read (item c.args.bytes) (map item_tree c.parts.items) (item_tree c.in-Some.read) c.parts.left.now c.part_len-n.result (all_some (item c.args.bytes) (parts c.args.tokens.now)) c.part_len-n.ensures.value more (ap (item c.args.bytes) (sym c.prefix.ensures) ∙ c.in_ok-read.ensures ∙ ap (option_map item_tree) c.in-Some.is) c.parts.invariant

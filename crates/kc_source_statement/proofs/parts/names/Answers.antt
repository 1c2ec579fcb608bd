use Rattle.std.proofs.Common.{◌<◌, length, Some, sym, ap, ◌∙◌, arith}
use Rattle.kc_source_statement.specs.Operands.{name_in, parts, all_some}
use Rattle.kc_source_statement.proofs.PartLemmas.{after_some, part_fails, last_part, part_read}
use Rattle.kc_source_statement.proofs.parts.names.Goals as goal

pub returns-in_default : goal.returns-in_default
returns-in_default c = part_fails (name_in c.args.typed) c.parts.names c.parts.left.now c.part_len-n.result (all_some (name_in c.args.typed) (parts c.args.tokens.now)) c.part_len-n.ensures.value (ap (name_in c.args.typed) (sym c.prefix.ensures) ∙ c.in_ok-read.ensures ∙ c.in_default.is) c.parts.invariant

pub returns-then-n-left : goal.returns-then-n-left
returns-then-n-left c =
    last_part (name_in c.args.typed) c.parts.names c.in-Some.read c.parts.left.now c.part_len-n.result (all_some (name_in c.args.typed) (parts c.args.tokens.now)) c.part_len-n.ensures.value c.if-n-left.true (ap (name_in c.args.typed) (sym c.prefix.ensures) ∙ c.in_ok-read.ensures ∙ c.in-Some.is) c.parts.invariant
    ∙ ap (λ xs. Some xs) (sym c.in_ok-push.ensures.ok)

pub parts-preserved : goal.parts-preserved
parts-preserved c =
    let more : c.part_len-n.result < length c.parts.left.now = omega (arith, c.part_len-n.ensures.within, c.if-n-left.false) in
    (λ i. after_some (c.in_ok-push.ensures.ok i) (all_some (name_in c.args.typed) (parts (c.rest-left.ensures i))))
    ∙ part_read (name_in c.args.typed) c.parts.names c.in-Some.read c.parts.left.now c.part_len-n.result (all_some (name_in c.args.typed) (parts c.args.tokens.now)) c.part_len-n.ensures.value more (ap (name_in c.args.typed) (sym c.prefix.ensures) ∙ c.in_ok-read.ensures ∙ c.in-Some.is) c.parts.invariant

use Rattle.std.proofs.Common.{true, false, ◌∙◌, sym, map, string_bytes}
use Rattle.kc_kit_words.proofs.OptionLemmas.{are_options-first, are_options-none}
use Rattle.kc_kit_words.proofs.options.are_options.Goals as goal

pub returns-then-not-may_stand : goal.returns-then-not-may_stand
returns-then-not-may_stand c =
    sym (c.loop-option.invariant ∙ are_options-first c.args.verb.now (map string_bytes c.loop-option.left.now) (c.in-Some.option.now, c.in-Some.value.now) (map string_bytes c.in-Some.rest.now) false
    (sym c.in-Some.ensures.first) (sym c.if-not-may_stand.ensures))

pub loop-option-preserved : goal.loop-option-preserved
loop-option-preserved c =
    c.loop-option.invariant ∙ are_options-first c.args.verb.now (map string_bytes c.loop-option.left.now) (c.in-Some.option.now, c.in-Some.value.now) (map string_bytes c.in-Some.rest.now) true
    (sym c.in-Some.ensures.first) (sym c.if-not-may_stand.ensures)

pub returns : goal.returns
returns c = c.is_empty.ensures ∙ sym (c.loop-option.invariant ∙ are_options-none c.args.verb.now c.loop-option.left.now (sym c.in_default.ensures.first))

use Rattle.std.proofs.Common.{◌∙◌, ap, sym, Some, None, map, string_bytes, arith}
use Rattle.kc_kit_words.specs.Usage.{wrong_text}
use Rattle.kc_kit_words.proofs.OptionLemmas.{wrong_option-first, wrong_option-empty, wrong_option-last}
use Rattle.kc_kit_words.proofs.usage.wrong_option.Goals as goal

pub returns-in-Some-wrong_value : goal.returns-in-Some-wrong_value
returns-in-Some-wrong_value c =
    sym (c.loop-option.invariant ∙ wrong_option-first c.args.verb.now (map string_bytes c.loop-option.left.now) (c.in-Some.option.now, c.in-Some.value.now) (map string_bytes c.in-Some.rest.now) (Some (wrong_text c.in-Some-wrong_value.wrong))
    (sym c.in-Some.ensures.first) (sym c.in-Some-wrong_value.ensures))

pub loop-option-preserved : goal.loop-option-preserved
loop-option-preserved c =
    c.loop-option.invariant ∙ wrong_option-first c.args.verb.now (map string_bytes c.loop-option.left.now) (c.in-Some.option.now, c.in-Some.value.now) (map string_bytes c.in-Some.rest.now) None
    (sym c.in-Some.ensures.first) (sym c.in_default-wrong_value.ensures)

pub returns-in-empty : goal.returns-in-empty
returns-in-empty c = sym (c.loop-option.invariant ∙ wrong_option-empty c.args.verb.now c.loop-option.left.now (sym c.in_default.ensures.first) (omega (arith, c.in-empty.len_below)))

pub returns-in-len1-up : goal.returns-in-len1-up
returns-in-len1-up c =
    sym (c.loop-option.invariant ∙ wrong_option-last c.args.verb.now c.as_str.result.now c.loop-option.left.now c.option-item.result (sym c.in_default.ensures.first) (omega (arith, c.in-len1-up.len_at_least))
    c.option-item.is c.as_str.ensures.value ∙ ap Some (sym c.wrong_last.ensures))

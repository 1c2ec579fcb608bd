use Rattle.std.proofs.Common.{true, false, ◌∙◌, ap, sym, map, string_bytes}
use Rattle.std.specs.List.{list_any}
use Rattle.std.specs.Str.{bytes_eq}
use Rattle.kc_kit_words.specs.Commands.{names_of}
use Rattle.kc_kit_words.proofs.OptionLemmas.{is_named-first, inputs_of-none}
use Rattle.kc_kit_words.proofs.overwriting.is_input.Goals as goal

pub returns-then-names_it : goal.returns-then-names_it
returns-then-names_it c =
    sym (c.loop-option.invariant ∙ is_named-first c.args.inputs.verb.now c.args.name.now (map string_bytes c.loop-option.left.now) (c.in-Some.option.now, c.in-Some.value.now) (map string_bytes c.in-Some.rest.now) true
    (sym c.in-Some.ensures.first) (sym c.if-names_it.ensures))

pub loop-option-preserved : goal.loop-option-preserved
loop-option-preserved c =
    c.loop-option.invariant ∙ is_named-first c.args.inputs.verb.now c.args.name.now (map string_bytes c.loop-option.left.now) (c.in-Some.option.now, c.in-Some.value.now) (map string_bytes c.in-Some.rest.now) false
    (sym c.in-Some.ensures.first) (sym c.if-names_it.ensures)

pub returns : goal.returns
returns c =
    sym (c.loop-option.invariant ∙ ap (λ i. list_any (λ n. bytes_eq n c.args.name.now) (names_of i)) (inputs_of-none c.args.inputs.verb.now (map string_bytes c.loop-option.left.now) (sym c.in_default.ensures.first)))
